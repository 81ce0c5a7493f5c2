use Rattle.std.proofs.Common.{rules, ◌≡◌, inr, sym, subst, refl, Err, Result, List, ℕ}
use Rattle.timetable.specs.TimetableData.{TimetableData}
use Rattle.hoist_cli.specs.declared.replies.Reply.{Reply}
use Rattle.hoist_cli.specs.declared.replies.Stop.{Stop}
use Rattle.hoist_cli.specs.declared.status.Status.{Status}
use Rattle.hoist_cli.specs.declared.status.Status.TheVariants.{Done}
use Rattle.hoist_cli.specs.Reading.{reading}
use Rattle.hoist_cli.specs.Reply.{AfterLegal, TimetableReply, IsChartOf}
use Rattle.hoist_cli.specs.Stops.{Gives}
use Rattle.hoist_cli.proofs.Narrowing.{refused_by, rejected_still}
use Rattle.hoist_cli.proofs.drawing.chart_file.Goals as goal

pub returns-in_err-timetable : goal.returns-in_err-timetable
returns-in_err-timetable g c =
    let r = reading (g.F.Shelf.files c.args.shelf.now) (g.F.Shelf.faults c.args.shelf.now) (g.F.Shelf.faults c.line_and_answer.new.shelf) in
    let l = c.in_ok-line.line in
    let t = c.in_ok-line.answer.timetable in
    let stop = c.in_err-timetable.field-0.0 in
    let stopped : c.from_residual-in_err-timetable.result ≡ Err stop = search rules in
    let Next : TimetableData → Status → List ℕ → Type 0 = λ d status text. (status ≡ Done) × IsChartOf l d text in
    subst (λ (x : Result Reply Stop). Gives (TimetableReply r c.args.file.now c.args.answer.now IsChartOf) x) (sym stopped)
    (refused_by (AfterLegal l (λ _ _ _. ⊥) t) (TimetableReply r c.args.file.now c.args.answer.now IsChartOf) stop
    (λ status text is. inr (l, c.in_ok-line.ensures.line, inr (c.in_ok-line.answer, c.in_ok-line.ensures.answer, rejected_still l Next t status text is)))
    c.in_err-timetable.ensures.refused)

pub returns : goal.returns
returns g c =
    inr (
      c.in_ok-line.line,
      c.in_ok-line.ensures.line,
      inr (
        c.in_ok-line.answer,
        c.in_ok-line.ensures.answer,
        inr (c.in_ok-timetable.timetable, c.in_ok-timetable.ensures.there, c.in_ok-timetable.ensures.legal, (refl, c.in_ok-text.ensures)),
      ),
    )
