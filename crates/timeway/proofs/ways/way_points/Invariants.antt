use Rattle.std.proofs.Common.{◌≡◌, ◌+◌, ◌++◌}
use Rattle.std.specs.List.{flat_map, range_with_len}
use Rattle.timetable.specs.TimetableData.{timetable_of}
use Rattle.timeway.specs.Shapes.{corner_text}
use Rattle.timeway.proofs.ways.way_points.Given as goal

abbrev pub invariant-loop-u : goal.invariant-loop-u
invariant-loop-u l = l.text.items ≡ flat_map (λ u. corner_text l.line (timetable_of l.t) l.h (l.t.period + u)) (range_with_len 0 l.u)
