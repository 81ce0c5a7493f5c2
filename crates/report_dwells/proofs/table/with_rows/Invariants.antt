use Rattle.std.proofs.Common.{◌≡◌, map}
use Rattle.std.specs.List.{range_with_len}
use Rattle.timetable.specs.TimetableData.{timetable_of}
use Rattle.markup.specs.Forms.{holding_all}
use Rattle.report_dwells.specs.Dwells.{row_at}
use Rattle.report_dwells.proofs.table.with_rows.Given as goal

abbrev pub invariant-loop-i : goal.invariant-loop-i
invariant-loop-i l = l.table ≡ holding_all l.fn.table (map (row_at l.line (timetable_of l.t)) (range_with_len 0 l.i))
