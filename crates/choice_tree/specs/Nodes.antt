-- A tree as a list of nodes: each node is named by its number, and the root is node 0.
use Rattle.std.specs.Prelude.{◌≡◌, ℕ, zero, suc, ◌+◌, ◌<◌, List, [], ◌∷◌, ◌++◌, length, get_or, slice_set, replicate, Some, None}
use Rattle.choice_tree.specs.declared.question.Question.{Question}
use Rattle.choice_tree.specs.declared.question.Decision.{Decision}
use Rattle.choice_tree.specs.declared.constraint.Constraint.{Constraint}
use Rattle.choice_tree.specs.declared.node.Node.{Node}
use Rattle.choice_tree.specs.declared.node.Node.TheVariants.{Split, Closed, Stuck, Solved, Left}

-- node i, and past the end a node that is left
abbrev pub node_at : List Node → ℕ → Node
node_at nodes i = get_or nodes i (Left None)

abbrev pub IsLeft : Node → Type 0
IsLeft (Split question children) = ⊥
IsLeft (Closed low high) = ⊥
IsLeft (Stuck m) = ⊥
IsLeft (Solved low) = ⊥
IsLeft (Left low) = Unit {0}

-- no node of the tree is left: the search has expanded it to its leaves
abbrev pub NoneLeft : List Node → Type 0
NoneLeft nodes = (i : ℕ) → i < length nodes → IsLeft (node_at nodes i) → ⊥

-- some node of the tree is left
abbrev pub SomeLeft : List Node → Type 0
SomeLeft nodes = (i : ℕ) × (i < length nodes) × IsLeft (node_at nodes i)

abbrev pub IsLeaf : Node → Type 0
IsLeaf (Split question children) = ⊥
IsLeaf (Closed low high) = Unit {0}
IsLeaf (Stuck m) = Unit {0}
IsLeaf (Solved low) = Unit {0}
IsLeaf (Left low) = Unit {0}

-- the numbers of a node's children; a leaf has none
abbrev pub children_of : Node → List ℕ
children_of (Split question children) = children
children_of (Closed low high) = []
children_of (Stuck m) = []
children_of (Solved low) = []
children_of (Left low) = []

-- node j is child m of node i
pub record IsChild (nodes : List Node) (i m j : ℕ) : Type 0 where
  pub there : m < length (children_of (node_at nodes i))
  pub child : get_or (children_of (node_at nodes i)) m 0 ≡ j

-- decision d at node i leads to node j: node i asks its question, and node j is the child that it takes
pub record Branches (nodes : List Node) (i : ℕ) (d : Decision) (j : ℕ) : Type 0 where
  pub children : List ℕ
  pub split : node_at nodes i ≡ Split d.question children
  pub there : d.child < length children
  pub child : get_or children d.child 0 ≡ j

-- the decisions, one after another, lead from node i to node j
abbrev pub Leads : List Node → ℕ → List Decision → ℕ → Type 0
Leads nodes i [] j = i ≡ j
Leads nodes i (d ∷ ds) j = (k : ℕ) × Branches nodes i d k × Leads nodes k ds j

-- the decisions from the root to node i
abbrev pub IsPathTo : List Node → ℕ → List Decision → Type 0
IsPathTo nodes i path = Leads nodes 0 path i

-- count numbers in a row
abbrev pub numbers_from : ℕ → ℕ → List ℕ
numbers_from first zero = []
numbers_from first (suc count) = first ∷ numbers_from (first + 1) count

-- node i becomes a split; its children are left with this walk, and stand behind all other nodes
abbrev pub split_at : List Node → ℕ → Question → ℕ → List Constraint → List Node
split_at nodes i question count low =
    slice_set nodes i (Split question (numbers_from (length nodes) count)) ++ replicate count (Left (Some low))
