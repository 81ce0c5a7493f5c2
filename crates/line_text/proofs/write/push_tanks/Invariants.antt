use Rattle.std.proofs.Common.{◌≡◌, ◌++◌, flat_map, take}
use Rattle.line_text.specs.Written.{tank_text}
use Rattle.line_text.proofs.write.push_tanks.Given as goal

abbrev pub invariant-loop-tank : goal.invariant-loop-tank
invariant-loop-tank l = l.text.items ≡ l.fn.text.items ++ flat_map tank_text (take l.tank-index l.tanks)
