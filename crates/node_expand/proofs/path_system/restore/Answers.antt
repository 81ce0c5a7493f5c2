use Rattle.std.proofs.Common.{arith, ap, length}
use Rattle.node_expand.proofs.PathLemmas.{same_system}
use Rattle.node_expand.proofs.path_system.restore.Goals as goal

pub returns : goal.returns
returns c =
    let inv = c.loop-k.invariant in
    same_system c.loop-k.system c.args.base.now c.loop-k.k inv.0 inv.1
    (omega (arith, c.loop-k-test.false, c.loop-k.auto.k-end, ap length c.arcs-count.ensures.value)) inv.2
