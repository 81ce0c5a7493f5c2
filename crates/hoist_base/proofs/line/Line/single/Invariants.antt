use Rattle.std.proofs.Common.{◌≡◌, ◌<◌, length, ℕ}
use Rattle.hoist_base.specs.LineData.{stage}
use Rattle.hoist_base.proofs.line.Line.single.Given as goal

abbrev pub invariant-loop-k : goal.invariant-loop-k
invariant-loop-k l = (j : ℕ) → j < l.k → length (stage l.self j).tanks ≡ 1
