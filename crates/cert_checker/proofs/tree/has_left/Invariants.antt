use Rattle.std.proofs.Common.{ℕ, ◌<◌}
use Rattle.choice_tree.specs.Nodes.{node_at, IsLeft}
use Rattle.cert_checker.proofs.tree.has_left.Given as goal

abbrev pub invariant-loop-i : goal.invariant-loop-i
invariant-loop-i l = (k : ℕ) → k < l.i → IsLeft (node_at l.tree k) → ⊥
