use Rattle.std.proofs.Common.{◌≡◌, map}
use Rattle.std.specs.List.{range_with_len}
use Rattle.serde_json.specs.View.{view}
use Rattle.report_json.specs.Document.{tank_value}
use Rattle.report_json.proofs.lines.tanks.Given as goal

abbrev pub invariant-loop-i : goal.invariant-loop-i
invariant-loop-i l = map view l.values.items ≡ map (tank_value l.line) (range_with_len 0 l.i)
