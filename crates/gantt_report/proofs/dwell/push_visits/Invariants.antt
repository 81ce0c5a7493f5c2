use Rattle.std.proofs.Common.{◌≡◌, ◌++◌, flat_map}
use Rattle.std.specs.List.{range_with_len}
use Rattle.timetable.specs.TimetableData.{timetable_of}
use Rattle.gantt_report.specs.DwellTable.{visit_line}
use Rattle.gantt_report.proofs.dwell.push_visits.Given as goal

abbrev pub invariant-loop-stage : goal.invariant-loop-stage
invariant-loop-stage l =
    l.text.items ≡ l.fn.text.items ++ flat_map (visit_line l.line (timetable_of l.t) l.c) (range_with_len 0 l.stage)
