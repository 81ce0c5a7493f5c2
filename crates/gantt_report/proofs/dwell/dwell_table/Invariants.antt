use Rattle.std.proofs.Common.{◌≡◌, ◌++◌, codes, flat_map}
use Rattle.std.specs.List.{range_with_len}
use Rattle.timetable.specs.TimetableData.{timetable_of}
use Rattle.gantt_report.specs.DwellTable.{carrier_lines}
use Rattle.gantt_report.proofs.dwell.dwell_table.Given as goal

abbrev pub invariant-loop-c : goal.invariant-loop-c
invariant-loop-c l = l.text.items ≡ codes "dwell\n" ++ flat_map (carrier_lines l.line (timetable_of l.t)) (range_with_len 0 l.c)
