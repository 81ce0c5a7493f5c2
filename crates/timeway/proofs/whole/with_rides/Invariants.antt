use Rattle.std.proofs.Common.{◌≡◌, map}
use Rattle.std.specs.List.{range_with_len}
use Rattle.hoist_base.specs.LineData.{move_at}
use Rattle.timetable.specs.TimetableData.{timetable_of}
use Rattle.markup.specs.Forms.{holding_all}
use Rattle.timeway.specs.Shapes.{ride}
use Rattle.timeway.proofs.whole.with_rides.Given as goal

abbrev pub invariant-loop-i : goal.invariant-loop-i
invariant-loop-i l = l.plot ≡ holding_all l.fn.plot (map (λ i. ride l.line (timetable_of l.t) (move_at l.line i).carrier
    (move_at l.line i).step) (range_with_len 0 l.i))
