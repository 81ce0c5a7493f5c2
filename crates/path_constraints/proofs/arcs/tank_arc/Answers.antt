use Rattle.std.proofs.Common.{arith}
use Rattle.std.proofs.lemmas.Int.{ints}
use Rattle.path_constraints.proofs.ArcLemmas.{second_arc}
use Rattle.path_constraints.proofs.arcs.tank_arc.Goals as goal

pub returns-else-child-eq0-clause-value : goal.returns-else-child-eq0-clause-value
returns-else-child-eq0-clause-value c =
    second_arc c.args.line.now c.args.path.now c.args.a c.args.b c.args.q _ c.args.child _ _ _ c.if-child-eq0.false
    c.end_below-else-child-eq0.ensures.value c.begin_below-else-child-eq0.ensures.value (omega (arith, ints)) c.moment_arc-else-child-eq0.ensures.value
