use Rattle.std.proofs.Common.{arith}
use Rattle.branch_rounds.proofs.ListLemmas.{pushed_number, numbers_all}
use Rattle.branch_rounds.proofs.state.Search.split.Goals as goal

pub loop-child-preserved : goal.loop-child-preserved
loop-child-preserved c = pushed_number _ _ _ _ _ c.loop-child.invariant c.in_ok-push.ensures.items

pub returns-clause-paths : goal.returns-clause-paths
returns-clause-paths c =
    numbers_all _ _ _ _ _ _ c.loop-child.invariant c.len-first.ensures.value (omega (arith, c.loop-child-test.false, c.loop-child.auto.child-end))
