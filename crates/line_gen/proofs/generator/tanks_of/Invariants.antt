use Rattle.std.proofs.Common.{◌≡◌, map}
use Rattle.std.specs.List.{range_with_len}
use Rattle.line_gen.specs.Generated.{tank_of}
use Rattle.line_gen.proofs.generator.tanks_of.Given as goal

abbrev pub invariant-loop-i : goal.invariant-loop-i
invariant-loop-i l = l.tanks.items ≡ map (tank_of l.baths) (range_with_len 0 l.i)
