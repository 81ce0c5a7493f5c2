use Rattle.std.proofs.Common.{◌≡◌, ℕ, ◌*◌, false, length, get_or}
use Rattle.std.specs.List.{list_any, range_with_len}
use Rattle.hoist_base.specs.LineData.{move_at}
use Rattle.timetable.specs.TimetableData.{timetable_of}
use Rattle.gantt_report.specs.Chart.{is_marked_by}
use Rattle.gantt_report.proofs.marks.carrying.Given as goal

abbrev pub invariant-loop-number : goal.invariant-loop-number
invariant-loop-number l =
    (length l.marks.items ≡ l.line.hoists * l.t.period)
    × ((j : ℕ) → get_or l.marks.items j false ≡ list_any (λ i. is_marked_by l.line (timetable_of l.t) j
    (move_at l.line i).carrier (move_at l.line i).step) (range_with_len 0 l.number))
