use Rattle.std.proofs.Common.{◌≡◌, ℕ, ◌==◌, ◌||◌, false, length, get_or}
use Rattle.std.specs.List.{list_any, range_with_len}
use Rattle.timetable.specs.TimetableData.{timetable_of}
use Rattle.gantt_report.specs.Chart.{mark_place}
use Rattle.gantt_report.proofs.marks.mark_move.Given as goal

abbrev pub invariant-loop-u : goal.invariant-loop-u
invariant-loop-u l =
    (length l.marks.items ≡ length l.fn.marks.items)
    × ((j : ℕ) → get_or l.marks.items j false ≡ (get_or l.fn.marks.items j false || list_any
    (λ u. mark_place (timetable_of l.t) l.m.carrier l.m.step u == j) (range_with_len 0 l.u)))
