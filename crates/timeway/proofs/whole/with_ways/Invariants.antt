use Rattle.std.proofs.Common.{◌≡◌, map}
use Rattle.std.specs.List.{range_with_len}
use Rattle.timetable.specs.TimetableData.{timetable_of}
use Rattle.markup.specs.Forms.{holding_all}
use Rattle.timeway.specs.Shapes.{way}
use Rattle.timeway.proofs.whole.with_ways.Given as goal

abbrev pub invariant-loop-h : goal.invariant-loop-h
invariant-loop-h l = l.plot ≡ holding_all l.fn.plot (map (way l.line (timetable_of l.t)) (range_with_len 0 l.h))
