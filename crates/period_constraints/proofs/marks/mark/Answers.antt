use Rattle.std.proofs.Common.{ℕ, List, sym, subst, take, ◌+◌}
use Rattle.std.specs.Prelude.{Option}
use Rattle.period_constraints.specs.Marks.{AreChoices, AreAssigned}
use Rattle.path_constraints.specs.Tanks.{decision_at}
use Rattle.period_constraints.proofs.MarkLemmas.{choice_noted, choices_stay, assigned_noted, assigned_stay, choice_other, assigned_other}
use Rattle.period_constraints.proofs.marks.mark.Goals.{in-Choose, in-Assign, in_default}
use Rattle.period_constraints.proofs.marks.mark.Goals as goal

pub loop-decision-preserved : goal.loop-decision-preserved
loop-decision-preserved c =
    let l = c.args.line.now in
    let path = c.args.path.now in
    let i = c.loop-decision.decision-index in
    let d = decision_at path i in
    let fits = c.requires.fits in
    let before = c.loop-decision.invariant in
    let C : List (Option ℕ) → Type 0 = λ xs. AreChoices l (take (i + 1) path) xs in
    let A : List (Option ℕ) → Type 0 = λ xs. AreAssigned l (take (i + 1) path) xs in
    elim c.match-decision.branch [
      | in-Choose w ↦
          let v = w.in-Choose.v in (
            subst C (sym w.choices-is)
                (choice_noted l path i v w.visit_number.result c.loop-decision.choices fits c.loop-decision-test.true w.in-Choose.is
                w.visit_number.ensures.value before.0),
            subst A (sym w.assigned-is)
                (assigned_stay l path i c.loop-decision.assigned c.loop-decision-test.true
                (λ n k. assigned_other d.question (λ m e. let f = w.in-Choose.is in cc) n k d.child) before.1),
          )
      | in-Assign w ↦
          let m = w.in-Assign.m in (
            subst C (sym w.choices-is)
                (choices_stay l path i c.loop-decision.choices c.loop-decision-test.true
                (λ n k. choice_other d.question (λ v e. let f = w.in-Assign.is in cc) n k d.child) before.0),
            subst A (sym w.assigned-is)
                (assigned_noted l path i m w.move_number.result c.loop-decision.assigned fits c.loop-decision-test.true w.in-Assign.is
                w.move_number.ensures.value before.1),
          )
      | in_default w ↦ (
        subst C (sym w.choices-is) (choices_stay l path i c.loop-decision.choices c.loop-decision-test.true
            (λ n k. choice_other d.question w.in_default.not-Choose n k d.child) before.0),
        subst A (sym w.assigned-is) (assigned_stay l path i c.loop-decision.assigned c.loop-decision-test.true
            (λ n k. assigned_other d.question w.in_default.not-Assign n k d.child) before.1),
      )
    ]
