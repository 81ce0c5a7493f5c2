use Rattle.std.proofs.Common.{◌≡◌, map}
use Rattle.std.specs.List.{range_with_len}
use Rattle.serde_json.specs.View.{view}
use Rattle.hoist_base.specs.LineData.{move_at}
use Rattle.timetable.specs.TimetableData.{timetable_of}
use Rattle.report_json.specs.Document.{move_value}
use Rattle.report_json.proofs.plans.moves.Given as goal

abbrev pub invariant-loop-i : goal.invariant-loop-i
invariant-loop-i l = map view l.values.items ≡ map (λ i. move_value l.line (timetable_of l.t) (move_at l.line i).carrier
    (move_at l.line i).step) (range_with_len 0 l.i)
