use Rattle.std.proofs.Common.{◌≡◌, ◌++◌, codes}
use Rattle.std.specs.List.{flat_map, range_with_len}
use Rattle.hoist_base.specs.LineData.{tank}
use Rattle.timeway.specs.Diagram.{stage_word}
use Rattle.timeway.proofs.notes.tank_words.Given as goal

abbrev pub invariant-loop-k : goal.invariant-loop-k
invariant-loop-k l = l.text.items ≡ ((tank l.line l.tank).name ++ codes ":") ++ flat_map (stage_word l.line l.tank) (range_with_len 0 l.k)
