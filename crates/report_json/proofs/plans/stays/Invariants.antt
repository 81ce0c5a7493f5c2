use Rattle.std.proofs.Common.{◌≡◌, map}
use Rattle.std.specs.List.{range_with_len}
use Rattle.serde_json.specs.View.{view}
use Rattle.timetable.specs.TimetableData.{timetable_of}
use Rattle.report_json.specs.Document.{stay_value}
use Rattle.report_json.proofs.plans.stays.Given as goal

abbrev pub invariant-loop-stage : goal.invariant-loop-stage
invariant-loop-stage l = map view l.values.items ≡ map (stay_value l.line (timetable_of l.t) l.c) (range_with_len 0 l.stage)
