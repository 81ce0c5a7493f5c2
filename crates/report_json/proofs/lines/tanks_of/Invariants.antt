use Rattle.std.proofs.Common.{◌≡◌, map, get_or}
use Rattle.std.specs.List.{range_with_len}
use Rattle.serde_json.specs.View.{view}
use Rattle.hoist_base.specs.LineData.{stage}
use Rattle.report_json.specs.Document.{count}
use Rattle.report_json.proofs.lines.tanks_of.Given as goal

abbrev pub invariant-loop-j : goal.invariant-loop-j
invariant-loop-j l = map view l.values.items ≡ map (λ j. count (get_or (stage l.line l.k).tanks j 0)) (range_with_len 0 l.j)
