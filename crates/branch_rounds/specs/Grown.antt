-- The rounds of a search: which outcome they come to.
use Rattle.std.specs.Prelude.{◌≡◌, ℕ, zero, suc, ◌+◌, ◌-◌, ◌<◌, ◌≤◌, ◌⊎◌, min, nat_lt, if◌then◌else◌, List, [], ◌∷◌, ◌++◌, length, get_or, drop, slice_set, Option, Some, None}
use Rattle.hoist_base.specs.LineData.{LineData}
use Rattle.choice_tree.specs.declared.question.Decision.{Decision}
use Rattle.choice_tree.specs.declared.node.Node.{Node}
use Rattle.choice_tree.specs.declared.node.Node.TheVariants as nodes
use Rattle.choice_tree.specs.declared.node.Node.TheVariants.{Left}
use Rattle.choice_tree.specs.Nodes.{node_at, IsPathTo, numbers_from, split_at}
use Rattle.path_constraints.specs.Proves.{RefutesPeriod}
use Rattle.node_expand.specs.declared.solved.Solved as plans
use Rattle.node_expand.specs.declared.expanded.Expanded.{Expanded}
use Rattle.node_expand.specs.declared.expanded.Expanded.TheVariants.{Stuck, Closed, Solved, Split}
use Rattle.node_expand.specs.Expansion.{IsExpansion}
pub use Rattle.branch_rounds.specs.declared.state.Search.{Search}
use Rattle.branch_rounds.specs.declared.outcome.Outcome.{Outcome}

-- the tree with the expansion of the path to node i: a leaf, or a split whose children are left with its low
abbrev pub result_at : List Node → ℕ → Expanded → List Node
result_at tree i (Stuck m) = slice_set tree i (nodes.Stuck m)
result_at tree i (Closed low high) = slice_set tree i (nodes.Closed low high)
result_at tree i (Solved solved low) = slice_set tree i (nodes.Solved low)
result_at tree i (Split question children period low) = split_at tree i question children low

-- the tree takes the expansions of the first paths in the order of the paths
abbrev pub taken : List Node → List ℕ → List Expanded → List Node
taken tree is [] = tree
taken tree [] (x ∷ xs) = tree
taken tree (i ∷ is) (x ∷ xs) = taken (result_at tree i x) is xs

-- how many paths stand in the place of an expanded one: a split's children, or none
abbrev pub child_count : Expanded → ℕ
child_count (Stuck m) = 0
child_count (Closed low high) = 0
child_count (Solved solved low) = 0
child_count (Split question children period low) = children

-- the paths in the place of expanded ones, in order; new nodes are numbered from here
abbrev pub replaced : ℕ → List Expanded → List ℕ
replaced first [] = []
replaced first (x ∷ xs) = numbers_from first (child_count x) ++ replaced (first + child_count x) xs

abbrev pub split_count : Expanded → ℕ
split_count (Stuck m) = 0
split_count (Closed low high) = 0
split_count (Solved solved low) = 0
split_count (Split question children period low) = 1

abbrev pub splits_of : List Expanded → ℕ
splits_of [] = 0
splits_of (x ∷ xs) = split_count x + splits_of xs

-- the best and a solved path: the one of less period, and at equal periods the best
abbrev pub less : Option plans.Solved → plans.Solved → plans.Solved
less None s = s
less (Some best) s = if nat_lt s.period best.period then s else best

abbrev pub better : Option plans.Solved → Expanded → Option plans.Solved
better best (Stuck m) = best
better best (Closed low high) = best
better best (Solved solved low) = Some (less best solved)
better best (Split question children period low) = best

-- the best after some expansions, the earlier first
abbrev pub best_of : Option plans.Solved → List Expanded → Option plans.Solved
best_of best [] = best
best_of best (x ∷ xs) = best_of (better best x) xs

-- the period of the best, or one more than the greatest period where there is none
abbrev pub cap_of : LineData → Option plans.Solved → ℕ
cap_of l None = l.max_period + 1
cap_of l (Some best) = best.period

-- the root alone is left
abbrev pub start : Search
start = record { tree = Left None ∷ []; frontier = 0 ∷ []; best = None; splits = 0 }

-- the state after the expansions of its first paths
abbrev pub after : Search → List Expanded → Search
after s xs = record {
  tree = taken s.tree s.frontier xs;
  frontier = replaced (length s.tree) xs ++ drop (length xs) s.frontier;
  best = best_of s.best xs;
  splits = s.splits + splits_of xs;
}

-- how many paths a round expands
abbrev pub round_size : ℕ → Search → ℕ
round_size budget s = min 64 (min (budget - s.splits) (length s.frontier))

-- x is the expansion of path k of the frontier, under the cap at which the round begins
pub record IsResult (l : LineData) (s : Search) (k : ℕ) (x : Expanded) : Type 0 where
  pub path : List Decision
  pub leads : IsPathTo s.tree (get_or s.frontier k 0) path
  pub expansion : IsExpansion l path (cap_of l s.best) x

-- while paths and splits are left, a round expands the first paths
pub record IsRound (l : LineData) (budget : ℕ) (s : Search) (xs : List Expanded) : Type 0 where
  pub some : 0 < length s.frontier
  pub unspent : s.splits < budget
  pub count : length xs ≡ round_size budget s
  pub each : (k : ℕ) (x : Expanded) → k < length xs → x ≡ get_or xs k x → IsResult l s k x

-- so many rounds lead from the root to the state
abbrev pub IsReached : LineData → ℕ → ℕ → Search → Type 0
IsReached l budget zero s = s ≡ start
IsReached l budget (suc rounds) s =
    (before : Search) × (xs : List Expanded) × IsReached l budget rounds before × IsRound l budget before xs × (s ≡ after before xs)

-- the low of a node that is left, with the sums of its constraints at the path, refutes the period
abbrev pub LowRefutes : LineData → List Decision → Node → ℕ → Type 0
LowRefutes l path (nodes.Split question children) period = ⊥
LowRefutes l path (nodes.Closed low high) period = ⊥
LowRefutes l path (nodes.Stuck m) period = ⊥
LowRefutes l path (nodes.Solved low) period = ⊥
LowRefutes l path (Left None) period = ⊥
LowRefutes l path (Left (Some low)) period = RefutesPeriod l path period low

-- the lows of all paths left refute every period below the bound; it is the cap, or the low of some path left doesn't
-- refute it
pub record IsBound (l : LineData) (s : Search) (bound : ℕ) : Type 0 where
  pub some : 1 ≤ bound
  pub most : bound ≤ cap_of l s.best
  pub refuted : (k : ℕ) (path : List Decision) (period : ℕ) → k < length s.frontier
      → IsPathTo s.tree (get_or s.frontier k 0) path
      → 1 ≤ period → period < bound → LowRefutes l path (node_at s.tree (get_or s.frontier k 0)) period
  pub met : (bound ≡ cap_of l s.best)
      ⊎ ((k : ℕ) × (path : List Decision) × (k < length s.frontier) × IsPathTo s.tree (get_or s.frontier k 0) path
      × (LowRefutes l path (node_at s.tree (get_or s.frontier k 0)) bound → ⊥))

-- the outcome of the rounds: they end where no path is left or the budget is spent
pub record IsGrown (l : LineData) (budget : ℕ) (o : Outcome) : Type 0 where
  pub rounds : ℕ
  pub end : Search
  pub reached : IsReached l budget rounds end
  pub done : (length end.frontier ≡ 0) ⊎ (budget ≤ end.splits)
  pub tree : o.tree ≡ end.tree
  pub best : o.best ≡ end.best
  pub splits : o.splits ≡ end.splits
  pub left : o.left ≡ length end.frontier
  pub bound : IsBound l end o.bound
