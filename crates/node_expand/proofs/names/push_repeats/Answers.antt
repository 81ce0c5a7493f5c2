use Rattle.std.proofs.Common.{arith, ◌+◌}
use Rattle.choice_tree.specs.declared.constraint.Constraint.TheVariants.{Repeat}
use Rattle.node_expand.proofs.RowLemmas.{row_more}
use Rattle.node_expand.proofs.names.push_repeats.Goals as goal

pub loop-k-preserved : goal.loop-k-preserved
loop-k-preserved c =
    let k = c.loop-k.k in
    row_more (λ j. Repeat c.args.c j) 0 k (k + 1) k _ _ _ (omega arith) (omega arith) c.loop-k.invariant c.in_ok-push.ensures.items
