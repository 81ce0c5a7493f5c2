use Rattle.std.proofs.Common.{◌≡◌, ℕ, ◌<◌, ◌≤◌, length, get_or}
use Rattle.path_constraints.specs.Tanks.{no_decision}
use Rattle.node_expand.proofs.climbs.is_same.Given as goal

-- the decisions from here on are the same
abbrev pub invariant-loop-left : goal.invariant-loop-left
invariant-loop-left l =
    (l.left ≤ length l.path)
    × ((i : ℕ) → l.left ≤ i → i < length l.path → get_or l.kept i no_decision ≡ get_or l.path i no_decision)

abbrev pub decreases-loop-left : goal.decreases-loop-left
decreases-loop-left l = l.left
