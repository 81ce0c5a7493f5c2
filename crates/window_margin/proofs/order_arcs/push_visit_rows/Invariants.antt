use Rattle.std.proofs.Common.{◌≡◌, ◌++◌}
use Rattle.hoist_base.specs.LineData.{visit_count}
use Rattle.timetable.specs.TimetableData.{timetable_of}
use Rattle.window_margin.specs.Arcs.{rows_below, visit_row}
use Rattle.window_margin.proofs.order_arcs.push_visit_rows.Given as goal

abbrev pub invariant-loop-i : goal.invariant-loop-i
invariant-loop-i l = l.arcs.items ≡ l.fn.arcs.items ++ rows_below (λ i. rows_below (visit_row l.line (timetable_of l.t) i) (visit_count l.line)) l.i
