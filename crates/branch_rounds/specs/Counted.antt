-- The splits of a tree; whether a node of it is left is said by the tree's own crate.
use Rattle.std.specs.Prelude.{ℕ, List, count_by, Bool, true, false}
use Rattle.choice_tree.specs.declared.node.Node.{Node}
use Rattle.choice_tree.specs.declared.node.Node.TheVariants.{Split, Closed, Stuck, Solved, Left}
pub use Rattle.choice_tree.specs.Nodes.{NoneLeft, SomeLeft}

abbrev pub is_split : Node → Bool
is_split (Split question children) = true
is_split (Closed low high) = false
is_split (Stuck m) = false
is_split (Solved low) = false
is_split (Left low) = false

-- how many nodes are splits
abbrev pub split_nodes : List Node → ℕ
split_nodes tree = count_by is_split tree
