use Rattle.std.proofs.Common.{◌≡◌, map}
use Rattle.std.specs.List.{range_with_len}
use Rattle.serde_json.specs.View.{view}
use Rattle.timetable.specs.TimetableData.{timetable_of}
use Rattle.report_json.specs.Document.{carrier_value}
use Rattle.report_json.proofs.plans.carriers.Given as goal

abbrev pub invariant-loop-c : goal.invariant-loop-c
invariant-loop-c l = map view l.values.items ≡ map (carrier_value l.line (timetable_of l.t)) (range_with_len 0 l.c)
