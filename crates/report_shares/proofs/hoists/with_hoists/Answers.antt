use Rattle.timetable.specs.TimetableData.{timetable_of}
use Rattle.markup.proofs.Trees.{holds_more, holds_none}
use Rattle.report_shares.specs.Shares.{hoist_row}
use Rattle.report_shares.proofs.hoists.with_hoists.Goals as goal

pub loop-h-init : goal.loop-h-init
loop-h-init c = holds_none c.args.table (hoist_row c.args.line.now (timetable_of c.args.t.now))

pub loop-h-preserved : goal.loop-h-preserved
loop-h-preserved c =
    holds_more c.args.table c.loop-h.table c.in_ok-table.table c.in_ok-row.row
    (hoist_row c.args.line.now
    (timetable_of c.args.t.now)) c.loop-h.h c.loop-h.invariant c.in_ok-row.ensures c.in_ok-table.ensures
