-- The walks of a leaf, and the constraints on them one after another: first those of low, then those of high.
use Rattle.std.specs.Prelude.{ℕ, List, [], ◌∷◌, ◌++◌, flat_map, get_or, option_to_list, Option, Some, None}
use Rattle.choice_tree.specs.declared.constraint.Constraint.{Constraint}
use Rattle.choice_tree.specs.declared.constraint.Constraint.TheVariants.{Min}
use Rattle.choice_tree.specs.declared.node.Node.{Node}
use Rattle.choice_tree.specs.declared.node.Node.TheVariants.{Split, Closed, Stuck, Solved, Left}

-- a leaf that is to refute periods
abbrev pub HasWalks : Node → Type 0
HasWalks (Split question children) = ⊥
HasWalks (Closed low high) = Unit {0}
HasWalks (Stuck m) = ⊥
HasWalks (Solved low) = Unit {0}
HasWalks (Left low) = Unit {0}

abbrev pub low_of : Node → Option (List Constraint)
low_of (Split question children) = None
low_of (Closed low high) = low
low_of (Stuck m) = None
low_of (Solved low) = Some low
low_of (Left low) = low

abbrev pub high_of : Node → Option (List Constraint)
high_of (Split question children) = None
high_of (Closed low high) = high
high_of (Stuck m) = None
high_of (Solved low) = None
high_of (Left low) = None

abbrev pub walks_of : Node → List (List Constraint)
walks_of node = option_to_list (low_of node) ++ option_to_list (high_of node)

-- the constraints of some walks, one walk after another
abbrev pub joined : List (List Constraint) → List Constraint
joined walks = flat_map (λ walk. walk) walks

-- for each constraint of a walk the one that comes after it; after the last comes the first
abbrev pub followers : List Constraint → List Constraint
followers [] = []
followers (t ∷ ts) = ts ++ t ∷ []

abbrev pub tokens_of : Node → List Constraint
tokens_of node = joined (walks_of node)

abbrev pub followers_of : Node → List Constraint
followers_of node = flat_map followers (walks_of node)

-- constraint j
abbrev pub token_at : List Constraint → ℕ → Constraint
token_at tokens j = get_or tokens j (Min 0 0)
