use Rattle.std.proofs.Common.{ap, ◌∙◌}
use Rattle.hoist_base.specs.declared.ids.VisitId.{VisitId}
use Rattle.timetable.specs.TimetableData.{timetable_of}
use Rattle.markup.proofs.Trees.{holds_more, holds_none}
use Rattle.report_dwells.specs.Dwells.{row_at, visit_row}
use Rattle.report_dwells.proofs.table.with_rows.Goals as goal

pub loop-i-init : goal.loop-i-init
loop-i-init c = holds_none c.args.table (row_at c.args.line.now (timetable_of c.args.t.now))

pub loop-i-preserved : goal.loop-i-preserved
loop-i-preserved c =
    holds_more c.args.table c.loop-i.table c.in_ok-table.table c.in_ok-row.row
    (row_at c.args.line.now (timetable_of c.args.t.now)) c.loop-i.i c.loop-i.invariant
    (c.in_ok-row.ensures ∙ ap (λ (v : VisitId). visit_row c.args.line.now
    (timetable_of c.args.t.now) v.carrier v.stage) c.visit_at.ensures.value)
    c.in_ok-table.ensures
