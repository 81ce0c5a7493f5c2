use Rattle.std.proofs.Common.{◌≡◌, map}
use Rattle.std.specs.List.{range_with_len}
use Rattle.gantt_report.specs.Chart.{ground_cell}
use Rattle.gantt_report.proofs.drawing.ground_row.Given as goal

abbrev pub invariant-loop-x : goal.invariant-loop-x
invariant-loop-x l = l.row.items ≡ map (ground_cell l.line) (range_with_len 0 l.x)
