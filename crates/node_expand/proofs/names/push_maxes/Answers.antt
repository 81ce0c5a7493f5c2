use Rattle.std.proofs.Common.{arith, ◌+◌, ◌-◌, ◌∙◌, sym, ap, [], ◌∷◌, ◌++◌, Bool, Vec, Global}
use Rattle.std.specs.Prelude.{is_some, cond}
use Rattle.std.proofs.lemmas.List.{append-nil}
use Rattle.hoist_base.specs.LineData.{stage}
use Rattle.hoist_base.specs.declared.stage.Stage.{Stage}
use Rattle.choice_tree.specs.declared.constraint.Constraint.{Constraint}
use Rattle.choice_tree.specs.declared.constraint.Constraint.TheVariants.{Max}
use Rattle.path_constraints.proofs.ArcLemmas.{stage_read}
use Rattle.node_expand.proofs.RowLemmas.{rows_more}
use Rattle.node_expand.proofs.names.push_maxes.Goals.{then-is_some+in_ok-push, else-is_some}
use Rattle.node_expand.proofs.names.push_maxes.Goals as goal

pub loop-k-preserved : goal.loop-k-preserved
loop-k-preserved c =
    let k = c.loop-k.k in
    let carrier = c.args.c in
    let l = c.args.line.now in
    let read = stage_read l k c.index-stages-k.result _ c.stages.ensures.value (omega (arith, c.loop-k-test.true, c.inner-count.ensures.count)) in
    let here = c.is_some.ensures ∙ ap (λ (s : Stage). is_some s.max) read in
    rows_more (λ j. cond (is_some (stage l j).max) (Max carrier j ∷ []) []) 1 (k - 1) (k + 1 - 1) k _ _ _ (omega (arith, c.loop-k.auto.k))
    (omega (arith, c.loop-k.auto.k)) c.loop-k.invariant
    (elim c.if-is_some.branch [
      | then-is_some+in_ok-push w ↦
          ap (λ (v : Vec Constraint Global). v.items) w.names-is ∙ w.in_ok-push.ensures.items ∙ ap
          (λ (b : Bool). c.loop-k.names.items ++ cond b (Max carrier k ∷ []) []) (sym (sym here ∙ w.if-is_some.true))
      | else-is_some w ↦
          ap (λ (v : Vec Constraint Global). v.items) w.names-is ∙ sym (append-nil c.loop-k.names.items) ∙ ap
          (λ (b : Bool). c.loop-k.names.items ++ cond b (Max carrier k ∷ []) []) (sym (sym here ∙ w.if-is_some.false))
    ])
