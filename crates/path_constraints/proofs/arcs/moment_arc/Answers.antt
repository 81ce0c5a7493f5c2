use Rattle.std.proofs.Common.{arith}
use Rattle.std.proofs.lemmas.Int.{ints}
use Rattle.path_constraints.proofs.ArcLemmas.{moment_is}
use Rattle.path_constraints.proofs.arcs.moment_arc.Goals as goal

pub returns-clause-value : goal.returns-clause-value
returns-clause-value c =
    moment_is c.args.line.now c.args.first c.args.second c.args.shift _ _ _ _ c.node_of.ensures.value c.node_of-2.ensures.value (omega (arith, ints))
    (omega (arith, ints))
