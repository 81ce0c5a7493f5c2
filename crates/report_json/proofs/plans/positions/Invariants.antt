use Rattle.std.proofs.Common.{◌≡◌, map}
use Rattle.std.specs.List.{range_with_len}
use Rattle.serde_json.specs.View.{view}
use Rattle.timetable.specs.TimetableData.{timetable_of}
use Rattle.report_json.specs.Document.{count}
use Rattle.report_json.proofs.plans.positions.Given as goal

abbrev pub invariant-loop-tick : goal.invariant-loop-tick
invariant-loop-tick l = map view l.values.items ≡ map (λ tick. count ((timetable_of l.t).path l.h tick)) (range_with_len 0 l.tick)
