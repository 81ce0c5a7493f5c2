use Rattle.std.proofs.Common.{◌≡◌, map}
use Rattle.std.specs.List.{range_with_len}
use Rattle.serde_json.specs.View.{view}
use Rattle.timetable.specs.TimetableData.{timetable_of}
use Rattle.report_json.specs.Document.{hoist_value}
use Rattle.report_json.proofs.plans.hoists.Given as goal

abbrev pub invariant-loop-h : goal.invariant-loop-h
invariant-loop-h l = map view l.values.items ≡ map (hoist_value (timetable_of l.t)) (range_with_len 0 l.h)
