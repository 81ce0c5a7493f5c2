use Rattle.std.proofs.Common.{◌≡◌, ◌++◌}
use Rattle.timetable.specs.TimetableData.{timetable_of}
use Rattle.window_margin.specs.Arcs.{rows_below, visit_row}
use Rattle.window_margin.proofs.order_arcs.push_visit_row.Given as goal

abbrev pub invariant-loop-j : goal.invariant-loop-j
invariant-loop-j l = l.arcs.items ≡ l.fn.arcs.items ++ rows_below (visit_row l.line (timetable_of l.t) l.i) l.j
