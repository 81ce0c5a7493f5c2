-- What comes of a path under a cap on the period.
use Rattle.std.specs.Prelude.{◌≡◌, ℕ, List, map, length, get_or, ℤ, Option, Some, None, option_map}
use Rattle.hoist_base.specs.LineData.{LineData, move_count, IsMove}
use Rattle.hoist_base.specs.Routes.{IsRoute}
use Rattle.hoist_base.specs.declared.ids.MoveId.{MoveId}
use Rattle.longest_path.specs.System.{IsLeastSolution}
use Rattle.cycle_walk.specs.Closed.{WalkData}
use Rattle.cycle_walk.specs.Climb.{climbed}
use Rattle.cycle_walk.specs.declared.climbing.Climbed.TheVariants.{Floor, Shut}
use Rattle.choice_tree.specs.declared.question.Decision.{Decision}
use Rattle.choice_tree.specs.declared.constraint.Constraint.{Constraint}
use Rattle.choice_tree.specs.declared.constraint.Constraint.TheVariants.{Entry}
use Rattle.path_constraints.specs.Tanks.{IsStuck}
use Rattle.path_constraints.specs.Constraints.{constraint_list}
use Rattle.path_constraints.specs.Places.{system_below}
use Rattle.path_constraints.specs.Questions.{IsBefore, child_count}
use Rattle.period_constraints.specs.Order.{IsFirstQuestion}
use Rattle.path_constraints.specs.Ticks.{tick_at}
use Rattle.node_expand.specs.declared.expanded.Expanded.{Expanded}
use Rattle.node_expand.specs.declared.expanded.Expanded.TheVariants.{Stuck, Closed, Solved, Split}
use Rattle.node_expand.specs.Plannable.{Settles}

-- some hoist may reach every move below the path
abbrev pub NoneStuck : LineData → List Decision → Type 0
NoneStuck l path = (c k : ℕ) → IsMove l c k → IsStuck l path c k → ⊥

-- m is the least move that no hoist may reach below the path
pub record IsFirstStuck (l : LineData) (path : List Decision) (m : MoveId) : Type 0 where
  pub move : IsMove l m.carrier m.step
  pub stuck : IsStuck l path m.carrier m.step
  pub first : (c k : ℕ) → IsMove l c k → IsBefore c k m.carrier m.step → IsStuck l path c k → ⊥

-- the names of a walk's constraints
abbrev pub named : LineData → List Decision → WalkData → List Constraint
named l path walk = map (λ k. get_or (constraint_list l path) k (Entry 0)) walk.arcs

-- no period below the cap is feasible, and these are the walks of the climb
pub record IsShut (l : LineData) (path : List Decision) (cap : ℕ) (low high : Option (List Constraint)) : Type 0 where
  pub low_walk : Option WalkData
  pub high_walk : Option WalkData
  pub climb : climbed (system_below l path) cap ≡ Shut low_walk high_walk
  pub low_names : low ≡ option_map (named l path) low_walk
  pub high_names : high ≡ option_map (named l path) high_walk

-- the least feasible period is below the cap, these are the least ticks there, and the last walk of the climb is low
pub record IsFloor (l : LineData) (path : List Decision) (cap period : ℕ) (low : List Constraint) : Type 0 where
  pub walk : WalkData
  pub climb : climbed (system_below l path) cap ≡ Floor period (Some walk)
  pub names : low ≡ named l path walk

-- Some move that no hoist may reach comes before all else. Then the climb tells whether a period below the cap is
-- feasible; at the least such period the least ticks tell which question is the first, or that there is none.
abbrev pub IsExpansion : LineData → List Decision → ℕ → Expanded → Type 0
IsExpansion l path cap (Stuck m) = IsFirstStuck l path m
IsExpansion l path cap (Closed low high) = NoneStuck l path × IsShut l path cap low high
IsExpansion l path cap (Solved solved low) =
    NoneStuck l path × IsFloor l path cap solved.period low
    × IsLeastSolution (system_below l path) solved.period solved.ticks
    × IsFirstQuestion l path (tick_at solved.ticks) solved.period None
    × Settles l path solved × IsRoute l solved.tanks × (length solved.hoists ≡ move_count l)
IsExpansion l path cap (Split question children period low) =
    NoneStuck l path × IsFloor l path cap period low
    × ((ticks : List ℤ) × IsLeastSolution (system_below l path) period ticks
    × IsFirstQuestion l path (tick_at ticks) period (Some question))
    × (children ≡ child_count l path question)
