-- The paths that a search asks.
use Rattle.std.specs.Prelude.{ℕ, ◌<◌, List, take, length, ℤ, Some}
use Rattle.hoist_base.specs.LineData.{LineData}
use Rattle.longest_path.specs.System.{IsLeastSolution}
use Rattle.choice_tree.specs.declared.question.Question.{Question}
use Rattle.choice_tree.specs.declared.question.Decision.{Decision}
use Rattle.path_constraints.specs.Tanks.{decision_at}
use Rattle.path_constraints.specs.Places.{system_below}
use Rattle.path_constraints.specs.Questions.{child_count}
use Rattle.path_constraints.specs.Ticks.{tick_at}
use Rattle.period_constraints.specs.Order.{IsFirstQuestion}
use Rattle.node_expand.specs.Expansion.{NoneStuck}

-- the question is the first that the least ticks at some period leave open below the path, where some hoist may reach
-- every move
pub record IsAskedBelow (l : LineData) (path : List Decision) (question : Question) : Type 0 where
  pub free : NoneStuck l path
  pub period : ℕ
  pub ticks : List ℤ
  pub solution : IsLeastSolution (system_below l path) period ticks
  pub first : IsFirstQuestion l path (tick_at ticks) period (Some question)

-- it is asked below the path above it, and its child is there
pub record IsAskedDecision (l : LineData) (path : List Decision) (d : Decision) : Type 0 where
  pub asked : IsAskedBelow l path d.question
  pub child : d.child < child_count l path d.question

-- every decision of the path is
abbrev pub IsAskedPath : LineData → List Decision → Type 0
IsAskedPath l path = (i : ℕ) → i < length path → IsAskedDecision l (take i path) (decision_at path i)
