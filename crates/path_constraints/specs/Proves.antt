-- What a tree proves: that no legal timetable has a period below a bound. It speaks of nodes and constraints alone.
use Rattle.std.specs.Prelude.{◌≡◌, ℕ, ◌<◌, ◌≤◌, List, [], ◌∷◌, ◌++◌, length, Contains, option_to_list, ℤ, pos, ◌+ℤ◌}
use Rattle.hoist_base.specs.LineData.{LineData, IsMove}
use Rattle.longest_path.specs.System.{Refutes}
use Rattle.choice_tree.specs.declared.question.Question.{Question}
use Rattle.choice_tree.specs.declared.question.Decision.{Decision}
use Rattle.choice_tree.specs.declared.constraint.Constraint.{Constraint}
use Rattle.choice_tree.specs.declared.node.Node.{Node}
use Rattle.choice_tree.specs.declared.node.Node.TheVariants.{Split, Closed, Stuck, Solved, Left}
use Rattle.choice_tree.specs.Nodes.{node_at, IsPathTo}
use Rattle.path_constraints.specs.Tanks.{IsStuck}
use Rattle.path_constraints.specs.Constraints.{arc_of, IsConstraint}
use Rattle.path_constraints.specs.Questions.{Fits, child_count}

-- constraints of the path, each of which begins where the one before ends, from node i to node j
abbrev pub Walks : LineData → List Decision → ℕ → List Constraint → ℕ → Type 0
Walks l path i [] j = i ≡ j
Walks l path i (t ∷ ts) j =
    IsConstraint l path t × ((arc_of l path t).from ≡ i) × Walks l path (arc_of l path t).to ts j

-- at least one, and the last ends where the first begins
abbrev pub IsClosedWalk : LineData → List Decision → List Constraint → Type 0
IsClosedWalk l path [] = ⊥
IsClosedWalk l path (t ∷ ts) = Walks l path (arc_of l path t).from (t ∷ ts) (arc_of l path t).from

abbrev pub sum_w : LineData → List Decision → List Constraint → ℤ
sum_w l path [] = pos 0
sum_w l path (t ∷ ts) = (arc_of l path t).w +ℤ sum_w l path ts

abbrev pub sum_q : LineData → List Decision → List Constraint → ℤ
sum_q l path [] = pos 0
sum_q l path (t ∷ ts) = (arc_of l path t).q +ℤ sum_q l path ts

-- a closed walk whose sums w and q have w + q * period > 0
abbrev pub RefutesPeriod : LineData → List Decision → ℕ → List Constraint → Type 0
RefutesPeriod l path period walk = Refutes (sum_w l path walk) (sum_q l path walk) period

-- all are closed walks, and each period below the bound is refuted by one of them
pub record RefuteBelow (l : LineData) (path : List Decision) (walks : List (List Constraint)) (bound : ℕ) : Type 0 where
  pub closed : (walk : List Constraint) → Contains walks walk → IsClosedWalk l path walk
  pub refuted : (period : ℕ) → 1 ≤ period → period < bound
      → (walk : List Constraint) × Contains walks walk × RefutesPeriod l path period walk

-- the split's question fits, and it has a node for each child
pub record IsWholeSplit (l : LineData) (path : List Decision) (question : Question) (children : List ℕ) : Type 0 where
  pub fits : Fits l path question
  pub count : length children ≡ child_count l path question

-- what a node of the path shows of periods below the bound
abbrev pub Shows : LineData → List Decision → Node → ℕ → Type 0
Shows l path (Split question children) bound = IsWholeSplit l path question children
Shows l path (Closed low high) bound = RefuteBelow l path (option_to_list low ++ option_to_list high) bound
Shows l path (Stuck m) bound = IsMove l m.carrier m.step × IsStuck l path m.carrier m.step
Shows l path (Solved low) bound = RefuteBelow l path (low ∷ []) bound
Shows l path (Left low) bound = RefuteBelow l path (option_to_list low) bound

-- every node shows it at its path
abbrev pub Proves : LineData → List Node → ℕ → Type 0
Proves l nodes bound =
    (i : ℕ) (path : List Decision) → i < length nodes → IsPathTo nodes i path → Shows l path (node_at nodes i) bound
