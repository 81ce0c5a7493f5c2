use Rattle.std.proofs.Common.{◌≡◌, ◌++◌, length, flat_map}
use Rattle.std.specs.List.{range_with_len}
use Rattle.timetable.specs.TimetableData.{timetable_of}
use Rattle.gantt_report.specs.Chart.{row_text}
use Rattle.gantt_report.proofs.drawing.push_rows.Given as goal

abbrev pub invariant-loop-tick : goal.invariant-loop-tick
invariant-loop-tick l =
    (length l.row.items ≡ length l.ground)
    × (l.text.items ≡ l.fn.text.items ++ flat_map (row_text l.line (timetable_of l.t)) (range_with_len 0 l.tick))
