-- The leaves that were passed on the way through a tree.
use Rattle.std.specs.Prelude.{ℕ, ◌≤◌, List, length}
use Rattle.std.specs.List.{between}
use Rattle.choice_tree.specs.declared.question.Decision.{Decision}
use Rattle.cert_checker.specs.declared.passed.Leaf.{Leaf}

-- a leaf's number in preorder, its node, and the path to it
pub record PassedLeaf : Type 0 where
  pub number : ℕ
  pub node : ℕ
  pub path : List Decision

-- the leaf whose path stands among these decisions
abbrev pub leaf_of : List Decision → Leaf → PassedLeaf
leaf_of decisions leaf =
    record { number = leaf.number; node = leaf.node; path = between leaf.begin leaf.end decisions }

-- its path is among the decisions
abbrev pub IsWithin : List Decision → Leaf → Type 0
IsWithin decisions leaf = (leaf.begin ≤ leaf.end) × (leaf.end ≤ length decisions)
