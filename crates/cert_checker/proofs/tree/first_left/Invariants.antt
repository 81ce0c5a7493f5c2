use Rattle.std.proofs.Common.{ℕ, ◌<◌}
use Rattle.cert_checker.specs.Reasons.{IsLeftNode}
use Rattle.cert_checker.proofs.tree.first_left.Given as goal

abbrev pub invariant-loop-number : goal.invariant-loop-number
invariant-loop-number l = (m : ℕ) → m < l.number → IsLeftNode l.tree m → ⊥
