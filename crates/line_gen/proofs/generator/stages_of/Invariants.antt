use Rattle.std.proofs.Common.{◌≡◌, map}
use Rattle.std.specs.List.{range_with_len}
use Rattle.line_gen.specs.Generated.{stage_of}
use Rattle.line_gen.proofs.generator.stages_of.Given as goal

abbrev pub invariant-loop-i : goal.invariant-loop-i
invariant-loop-i l = l.stages.items ≡ map (stage_of l.choices) (range_with_len 0 l.i)
