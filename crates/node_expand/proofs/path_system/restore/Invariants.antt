use Rattle.std.proofs.Common.{◌≡◌, ℕ, ◌<◌, length}
use Rattle.longest_path.specs.System.{arc}
use Rattle.node_expand.proofs.path_system.restore.Given as goal

-- the constraints so far are those of the base
abbrev pub invariant-loop-k : goal.invariant-loop-k
invariant-loop-k l =
    (l.system.nodes ≡ l.base.nodes) × (length l.system.arcs ≡ length l.base.arcs)
    × ((j : ℕ) → j < l.k → arc l.system j ≡ arc l.base j)
