-- When a list of nodes is a tree, and the order in which its nodes are read.
use Rattle.std.specs.Prelude.{◌≡◌, ℕ, zero, suc, ◌^◌, ◌<◌, ◌≤◌, List, [], ◌∷◌, length, flat_map}
use Rattle.choice_tree.specs.declared.node.Node.{Node}
use Rattle.choice_tree.specs.Nodes.{node_at, children_of, IsChild}

-- Each node but the root is the child of exactly one split, which stands before it. So each node has one path
-- from the root, and it ends.
pub record IsTree (nodes : List Node) : Type 0 where
  pub root : 0 < length nodes
  pub small : length nodes < 2 ^ 32
  pub few : (i : ℕ) → length (children_of (node_at nodes i)) ≤ 6
  pub later : (i m j : ℕ) → IsChild nodes i m j → (i < j) × (j < length nodes)
  pub one_parent : (i m i' m' j : ℕ) → IsChild nodes i m j → IsChild nodes i' m' j → (i ≡ i') × (m ≡ m')
  pub has_parent : (j : ℕ) → 0 < j → j < length nodes → (i : ℕ) × (m : ℕ) × IsChild nodes i m j

-- node i, then what is below its children, one child after another, to the given depth
abbrev pub preorder_below : ℕ → List Node → ℕ → List ℕ
preorder_below zero nodes i = []
preorder_below (suc depth) nodes i = i ∷ flat_map (preorder_below depth nodes) (children_of (node_at nodes i))

-- all nodes: a split comes right before what is below its children (no path is longer than there are nodes)
abbrev pub preorder : List Node → List ℕ
preorder nodes = preorder_below (length nodes) nodes 0
