-- Paths in trees.
use Rattle.std.specs.Prelude.{◌≡◌, ℕ, List, [], ◌∷◌, ◌++◌}
use Rattle.choice_tree.specs.declared.question.Decision.{Decision}
use Rattle.choice_tree.specs.declared.node.Node.{Node}
use Rattle.choice_tree.specs.Nodes.{Branches, Leads, IsPathTo}
use Rattle.choice_tree.specs.Trees.{IsTree}

-- in a tree there is one path to each node
abbrev pub OnePath : Type 0
OnePath =
    (nodes : List Node) (i : ℕ) (p q : List Decision) → IsTree nodes → IsPathTo nodes i p → IsPathTo nodes i q → p ≡ q

-- a path goes on with a decision that leads from its end
abbrev pub GoesOn : Type 0
GoesOn =
    (nodes : List Node) (i j k : ℕ) (ds : List Decision) (d : Decision) → Leads nodes i ds j → Branches nodes j d k
    → Leads nodes i (ds ++ d ∷ []) k
