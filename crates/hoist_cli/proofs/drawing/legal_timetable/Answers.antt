use Rattle.std.proofs.Common.{rules, ◌≡◌, ◌∙◌, inl, sym, subst, refl, codes, None, Option}
use Rattle.timetable.specs.TimetableData.{TimetableData}
use Rattle.hoist_cli.specs.declared.status.Status.TheVariants.{Negative}
use Rattle.hoist_cli.specs.Reading.{IsLineOf}
use Rattle.hoist_cli.specs.Reply.{AfterLegal, IsFlawed}
use Rattle.hoist_cli.proofs.Narrowing.{refused_by}
use Rattle.hoist_cli.proofs.drawing.legal_timetable.Goals as goal

pub returns-in_default-clause-refused : goal.returns-in_default-clause-refused
returns-in_default-clause-refused c =
    let l = c.args.line.now in
    let none : c.args.timetable ≡ None = search rules in
    let flawed : IsFlawed l c.args.timetable (codes "timetable missing") =
    subst (λ (o : Option TimetableData). IsFlawed l o (codes "timetable missing")) (sym none) refl in
    refused_by (IsLineOf Negative (codes "rejected: ") (codes "timetable missing")) (AfterLegal l (λ _ _ _. ⊥) c.args.timetable) c.rejected.result
    (λ status text is. inl (codes "timetable missing", flawed, is)) c.rejected.ensures

pub returns-in_ok-why-in-Some-first_fault-clause-refused : goal.returns-in_ok-why-in-Some-first_fault-clause-refused
returns-in_ok-why-in-Some-first_fault-clause-refused c =
    let l = c.args.line.now in
    let why = c.as_slice.result.now in
    let found = c.in-Some-first_fault in
    let flawed : IsFlawed l c.args.timetable why =
    subst (λ (o : Option TimetableData). IsFlawed l o why) (sym c.in-Some.is) (
      (λ legal. let never = found.ensures.legal.1 legal in cc),
      (found.fault, found.ensures.first, c.as_slice.ensures.value ∙ c.in_ok-why-in-Some-first_fault.ensures),
    ) in
    refused_by (IsLineOf Negative (codes "rejected: ") why) (AfterLegal l (λ _ _ _. ⊥) c.args.timetable) c.rejected-in-Some-first_fault.result
    (λ status text is. inl (why, flawed, is)) c.rejected-in-Some-first_fault.ensures
