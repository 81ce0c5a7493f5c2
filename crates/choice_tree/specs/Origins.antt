-- What a tree keeps beside its nodes: for each node but the root, where it hangs.
use Rattle.std.specs.Prelude.{◌≡◌, ℕ, ◌+◌, ◌<◌, List, length, get_or}
use Rattle.choice_tree.specs.declared.question.Question.{Question}
use Rattle.choice_tree.specs.declared.tree.Origin.{Origin}
use Rattle.choice_tree.specs.declared.node.Node.{Node}
use Rattle.choice_tree.specs.Nodes.{Branches}

-- the origin of node k + 1 stands at k: the decision at its parent leads to it
pub record HasOrigins (nodes : List Node) (origins : List Origin) : Type 0 where
  pub count : length origins + 1 ≡ length nodes
  pub leads : (k : ℕ) (o : Origin) → k < length origins → o ≡ get_or origins k o
      → Branches nodes o.parent o.decision (k + 1)

-- the origins of a split's children, in order
pub record AreOriginsOf (origins : List Origin) (parent : ℕ) (question : Question) (children : ℕ) : Type 0 where
  pub count : length origins ≡ children
  pub child : (m : ℕ) (o : Origin) → m < length origins → o ≡ get_or origins m o
      → (o.parent ≡ parent) × (o.decision.question ≡ question) × (o.decision.child ≡ m)
