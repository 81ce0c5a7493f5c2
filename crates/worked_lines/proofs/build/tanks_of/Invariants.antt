use Rattle.std.proofs.Common.{◌≡◌, length}
use Rattle.worked_lines.proofs.build.tanks_of.Given as goal

abbrev pub invariant-loop-i : goal.invariant-loop-i
invariant-loop-i l = length l.tanks.items ≡ l.i
