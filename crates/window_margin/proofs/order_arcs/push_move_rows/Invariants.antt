use Rattle.std.proofs.Common.{◌≡◌, ◌++◌}
use Rattle.hoist_base.specs.LineData.{move_count}
use Rattle.timetable.specs.TimetableData.{timetable_of}
use Rattle.window_margin.specs.Arcs.{rows_below, move_row}
use Rattle.window_margin.proofs.order_arcs.push_move_rows.Given as goal

abbrev pub invariant-loop-i : goal.invariant-loop-i
invariant-loop-i l = l.arcs.items ≡ l.fn.arcs.items ++ rows_below (λ i. rows_below (move_row l.line (timetable_of l.t) i) (move_count l.line)) l.i
