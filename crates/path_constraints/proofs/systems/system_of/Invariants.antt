use Rattle.std.proofs.Common.{◌≡◌, take}
use Rattle.path_constraints.specs.Places.{system_below}
use Rattle.path_constraints.proofs.systems.system_of.Given as goal

abbrev pub invariant-loop-i : goal.invariant-loop-i
invariant-loop-i l = l.s ≡ system_below l.line (take l.i l.path)
