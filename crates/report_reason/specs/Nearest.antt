-- The branch of a tree that comes closest to a faster timetable: its walks refute all periods below the bound, but
-- not the bound itself.
use Rattle.std.specs.Prelude.{
  ◌≡◌,
  ℕ,
  ◌<◌,
  ◌-◌,
  ◌||◌,
  Bool,
  false,
  cond,
  int_lt,
  List,
  Option,
  Some,
  None,
  option_map,
  pos,
  ◌+ℤ◌,
  ◌*ℤ◌,
}
use Rattle.hoist_base.specs.LineData.{LineData}
use Rattle.choice_tree.specs.declared.question.Decision.{Decision}
use Rattle.choice_tree.specs.declared.constraint.Constraint.{Constraint}
use Rattle.choice_tree.specs.declared.node.Node.{Node}
use Rattle.choice_tree.specs.Nodes.{node_at}
use Rattle.path_constraints.specs.Proves.{IsClosedWalk}
use Rattle.answer_text.specs.Fields.{IsWalk}
use Rattle.answer_text.specs.declared.answer.Answer.{Answer}
use Rattle.cycle_walk.specs.declared.sums.Sums.{Sums}
use Rattle.cert_checker.specs.Flaws.{sums_of}
use Rattle.cert_checker.specs.Reasons.{StandsAt}
use Rattle.cert_checker.specs.Walks.{low_of, high_of}

-- whether a walk with these sums, where there is one, refutes a period
abbrev pub gives_by : Option Sums → ℕ → Bool
gives_by None period = false
gives_by (Some s) period = int_lt (pos 0) (s.w +ℤ s.q *ℤ pos period)

abbrev pub gives : LineData → List Decision → ℕ → Option (List Constraint) → Bool
gives l path period walk = gives_by (option_map (sums_of l path) walk) period

-- the walk of a leaf that sets the bound: it refutes the period one tick shorter, and no walk of the leaf refutes
-- the bound; the low one where both do
abbrev pub setting_walk : LineData → List Decision → ℕ → Node → Option (List Constraint)
setting_walk l path bound node =
    cond (gives l path bound (low_of node) || gives l path bound (high_of node)) None
    (cond (gives l path (bound - 1) (low_of node)) (low_of node)
    (cond (gives l path (bound - 1) (high_of node)) (high_of node) None))

-- a walk that can be summed: it is closed, and no longer than an answer's walks may be
abbrev pub IsUsable : LineData → List Decision → Option (List Constraint) → Type 0
IsUsable l path None = Unit {0}
IsUsable l path (Some walk) = IsClosedWalk l path walk × IsWalk walk

-- node n in preorder, at the end of this path, has a walk that sets the bound
pub record Sets (l : LineData) (a : Answer) (n : ℕ) (path : List Decision) (walk : List Constraint) : Type 0 where
  pub node : ℕ
  pub stands : StandsAt a.tree n node path
  pub is : setting_walk l path a.bound (node_at a.tree node) ≡ Some walk

-- and it is the first node that has one
pub record IsNearest (l : LineData) (a : Answer) (n : ℕ) (path : List Decision) (walk : List Constraint) : Type 0 where
  pub sets : Sets l a n path walk
  pub first : (m : ℕ) (shorter : List Decision) (other : List Constraint) → m < n → Sets l a m shorter other → ⊥

-- no node has one
abbrev pub NoneSets : LineData → Answer → Type 0
NoneSets l a = (n : ℕ) (path : List Decision) (walk : List Constraint) → Sets l a n path walk → ⊥
