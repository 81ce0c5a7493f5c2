use Rattle.std.proofs.Common.{◌≡◌, take}
use Rattle.hoist_base.proofs.line.copied_tanks.Given as goal

abbrev pub invariant-loop-tank : goal.invariant-loop-tank
invariant-loop-tank l = l.copy.items ≡ take l.tank-index l.tanks
