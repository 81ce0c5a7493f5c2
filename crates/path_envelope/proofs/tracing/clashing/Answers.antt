-- The first two fixed points that contradict one another do.
use Rattle.path_envelope.proofs.FirstLemmas.{clash_fixed}
use Rattle.path_envelope.proofs.tracing.clashing.Goals as goal

pub returns : goal.returns
returns c =
    let all = clash_fixed c.args.asked.line.now _ c.in-Some.a c.in-Some.b c.in-Some.ensures in
    (all.0, all.1, all.2, c.in-Some.ensures)
