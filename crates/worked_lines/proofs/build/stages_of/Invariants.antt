use Rattle.std.proofs.Common.{◌≡◌, length}
use Rattle.worked_lines.proofs.build.stages_of.Given as goal

abbrev pub invariant-loop-k : goal.invariant-loop-k
invariant-loop-k l = length l.stages.items ≡ l.k
