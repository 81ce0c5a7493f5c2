use Rattle.std.proofs.Common.{arith, ◌+◌, ◌++◌, ◌∙◌, ap, map, ℕ, ◌≡◌}
use Rattle.hoist_base.specs.LineData.{last_stage}
use Rattle.choice_tree.specs.declared.constraint.Constraint.TheVariants.{Min, Visit, Repeat}
use Rattle.choice_tree.specs.Nodes.{numbers_from}
use Rattle.node_expand.proofs.RowLemmas.{min_row, max_row, entry_row, visit_row, repeat_row, carrier_more}
use Rattle.node_expand.proofs.names.undecided_names.Goals as goal

pub loop-c-preserved : goal.loop-c-preserved
loop-c-preserved c =
    carrier_more (min_row c.args.line.now) c.loop-c.c _ _ _ c.loop-c.invariant
    (c.in_ok-push_mins.ensures ∙ ap (λ (n : ℕ). c.loop-c.names.items ++ map (λ k. Min c.loop-c.c k) (numbers_from 1 n)) c.inner-inner.ensures.value)

pub loop-c-2-preserved : goal.loop-c-2-preserved
loop-c-2-preserved c =
    carrier_more (max_row c.args.line.now) c.loop-c-2.c _ _ _ c.loop-c-2.invariant c.in_ok-push_maxes.ensures

pub loop-c-3-preserved : goal.loop-c-3-preserved
loop-c-3-preserved c = carrier_more entry_row c.loop-c-3.c _ _ _ c.loop-c-3.invariant c.in_ok-push.ensures.items

pub loop-c-4-preserved : goal.loop-c-4-preserved
loop-c-4-preserved c =
    let all : c.inner-inner.result + 1 ≡ last_stage c.args.line.now = omega (arith, c.inner-inner.ensures.count) in
    carrier_more (visit_row c.args.line.now) c.loop-c-4.c _ _ _ c.loop-c-4.invariant
    (c.in_ok-push_visits.ensures ∙ ap (λ (n : ℕ). c.loop-c-4.names.items ++ map (λ k. Visit c.loop-c-4.c k) (numbers_from 1 n)) all)

pub loop-c-5-preserved : goal.loop-c-5-preserved
loop-c-5-preserved c =
    let all : c.inner-inner.result + 1 ≡ last_stage c.args.line.now = omega (arith, c.inner-inner.ensures.count) in
    carrier_more (repeat_row c.args.line.now) c.loop-c-5.c _ _ _ c.loop-c-5.invariant
    (c.in_ok-push_repeats.ensures ∙ ap (λ (n : ℕ). c.loop-c-5.names.items ++ map (λ k. Repeat c.loop-c-5.c k) (numbers_from 0 n)) all)
