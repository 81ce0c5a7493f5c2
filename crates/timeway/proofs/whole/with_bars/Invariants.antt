use Rattle.std.proofs.Common.{◌≡◌, map}
use Rattle.std.specs.List.{range_with_len}
use Rattle.hoist_base.specs.LineData.{visit_at}
use Rattle.timetable.specs.TimetableData.{timetable_of}
use Rattle.markup.specs.Forms.{holding_all}
use Rattle.timeway.specs.Shapes.{bar}
use Rattle.timeway.proofs.whole.with_bars.Given as goal

abbrev pub invariant-loop-i : goal.invariant-loop-i
invariant-loop-i l = l.plot ≡ holding_all l.fn.plot (map (λ i. bar l.line (timetable_of l.t) (visit_at l.line i).carrier
    (visit_at l.line i).stage) (range_with_len 0 l.i))
