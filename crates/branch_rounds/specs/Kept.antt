-- What holds of every state that the rounds reach.
use Rattle.std.specs.Prelude.{◌≡◌, ℕ, ◌+◌, ◌*◌, ◌<◌, ◌≤◌, ◌==◌, nat_lt, if◌then◌else◌, List, [], ◌∷◌, length, get_or, IfSome}
use Rattle.hoist_base.specs.LineData.{LineData, is_single}
use Rattle.hoist_base.specs.Valid.{IsLine}
use Rattle.longest_path.specs.Bounds.{IsCap}
use Rattle.choice_tree.specs.declared.question.Decision.{Decision}
use Rattle.choice_tree.specs.declared.node.Node.{Node}
use Rattle.choice_tree.specs.declared.node.Node.TheVariants.{Split, Closed, Stuck, Solved, Left}
use Rattle.choice_tree.specs.Nodes.{node_at, IsPathTo}
use Rattle.choice_tree.specs.Trees.{IsTree}
use Rattle.path_constraints.specs.Questions.{FitsPath}
use Rattle.path_constraints.specs.Proves.{IsClosedWalk, Shows}
use Rattle.node_expand.specs.declared.expanded.Expanded.{Expanded}
use Rattle.node_expand.specs.Expansion.{IsExpansion}
use Rattle.node_expand.specs.Plannable.{IsPlannable}
use Rattle.node_expand.specs.Shown as expansions
use Rattle.answer_text.specs.Nodes.{IsNodeText}
use Rattle.branch_rounds.specs.Grown.{Search, cap_of, child_count}
use Rattle.branch_rounds.specs.Counted.{split_nodes}

-- how often a number stands in a list
abbrev pub times : ℕ → List ℕ → ℕ
times j [] = 0
times j (i ∷ is) = (if i == j then 1 else 0) + times j is

-- 1 for a node that is left
abbrev pub left_count : Node → ℕ
left_count (Split question children) = 0
left_count (Closed low high) = 0
left_count (Stuck m) = 0
left_count (Solved low) = 0
left_count (Left low) = 1

abbrev pub left_at : List Node → ℕ → ℕ
left_at tree j = if nat_lt j (length tree) then left_count (node_at tree j) else 0

-- below which bound a node refutes periods: one that is left doesn't refute any yet
abbrev pub shown_below : Node → ℕ → ℕ
shown_below (Split question children) cap = cap
shown_below (Closed low high) cap = cap
shown_below (Stuck m) cap = cap
shown_below (Solved low) cap = cap
shown_below (Left low) cap = 1

-- the frontier is what is left of the tree, the splits are counted, and bound their sizes
pub record IsPlaced (s : Search) : Type 0 where
  pub tree : IsTree s.tree
  pub nodes : length s.tree ≤ 1 + 6 * s.splits
  pub paths : length s.frontier ≤ 1 + 6 * s.splits
  pub counted : split_nodes s.tree ≡ s.splits
  -- each node that is left stands in the frontier once, and nothing else does
  pub left : (j : ℕ) → times j s.frontier ≡ left_at s.tree j

pub record IsKept (l : LineData) (s : Search) : Type 0 where
  pub placed : IsPlaced s
  pub fits : (i : ℕ) (path : List Decision) → IsPathTo s.tree i path → FitsPath l path × (length path ≤ s.splits)
  pub shows : (i : ℕ) (path : List Decision) → i < length s.tree → IsPathTo s.tree i path
      → Shows l path (node_at s.tree i) (shown_below (node_at s.tree i) (cap_of l s.best))
  pub texts : (i : ℕ) → i < length s.tree → IsNodeText (is_single l) (node_at s.tree i)
  pub best : IfSome s.best (λ b. IsPlannable l b × (b.period ≤ l.max_period))

-- a path of a line that can be expanded under a cap
pub record CanExpand (l : LineData) (path : List Decision) (cap : ℕ) : Type 0 where
  pub valid : IsLine l
  pub fits : FitsPath l path
  pub short : length path ≤ 20000
  pub range : IsCap cap

-- an expansion under a cap, with all that it shows
pub record IsShown (l : LineData) (path : List Decision) (cap : ℕ) (x : Expanded) : Type 0 where
  pub expansion : IsExpansion l path cap x
  pub shows : expansions.Shows l path cap x
  pub few : expansions.HasShortWalks x

-- the paths to the first nodes of the frontier
abbrev pub ArePaths : Search → List (List Decision) → Type 0
ArePaths s paths = (k : ℕ) (path : List Decision) → k < length paths → path ≡ get_or paths k path → IsPathTo s.tree (get_or s.frontier k 0) path

-- x is the expansion of path k of the state
pub record IsAnswer (l : LineData) (s : Search) (k : ℕ) (x : Expanded) : Type 0 where
  pub path : List Decision
  pub leads : IsPathTo s.tree (get_or s.frontier k 0) path
  pub shown : IsShown l path (cap_of l s.best) x

-- the expansions of the first paths of the state
abbrev pub AreAnswers : LineData → Search → List Expanded → Type 0
AreAnswers l s xs = (k : ℕ) (x : Expanded) → k < length xs → x ≡ get_or xs k x → IsAnswer l s k x

-- none has more than six children
abbrev pub AreNarrow : List Expanded → Type 0
AreNarrow xs = (k : ℕ) (x : Expanded) → k < length xs → x ≡ get_or xs k x → child_count x ≤ 6

-- the low of a node that is left is a closed walk of the path, and not too long
abbrev pub HasGoodLow : LineData → List Decision → Node → Type 0
HasGoodLow l path (Split question children) = ⊥
HasGoodLow l path (Closed low high) = ⊥
HasGoodLow l path (Stuck m) = ⊥
HasGoodLow l path (Solved low) = ⊥
HasGoodLow l path (Left low) = IfSome low (λ walk. IsClosedWalk l path walk × (length walk ≤ 1000))
