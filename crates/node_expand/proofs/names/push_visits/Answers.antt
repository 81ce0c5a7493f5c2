use Rattle.std.proofs.Common.{arith, ◌+◌, ◌-◌}
use Rattle.choice_tree.specs.declared.constraint.Constraint.TheVariants.{Visit}
use Rattle.node_expand.proofs.RowLemmas.{row_more}
use Rattle.node_expand.proofs.names.push_visits.Goals as goal

pub loop-k-preserved : goal.loop-k-preserved
loop-k-preserved c =
    let k = c.loop-k.k in
    row_more (λ j. Visit c.args.c j) 1 (k - 1) (k + 1 - 1) k _ _ _ (omega (arith, c.loop-k.auto.k))
    (omega (arith, c.loop-k.auto.k)) c.loop-k.invariant c.in_ok-push.ensures.items
