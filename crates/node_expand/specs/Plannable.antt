-- What a solved path hands on to the plan: ticks and hoists by the numbers of the moves, and a route.
use Rattle.std.specs.Prelude.{◌≡◌, ℕ, ◌≤◌, List, length, get_or, pos, Some}
use Rattle.hoist_base.specs.LineData.{LineData, move_number, move_count, IsMove, IsVisit}
use Rattle.hoist_base.specs.Routes.{IsRoute, route_tank}
use Rattle.choice_tree.specs.declared.question.Question.{Question}
use Rattle.choice_tree.specs.declared.question.Decision.{Decision}
use Rattle.choice_tree.specs.declared.constraint.Constraint.{Constraint}
use Rattle.path_constraints.specs.Tanks.{tank_below}
use Rattle.path_constraints.specs.Hoists.{hoist_below}
use Rattle.path_constraints.specs.Constraints.{IsConstraint, IsOrder, arc_of, Keeps}
use Rattle.path_constraints.specs.Places.{IsUndecided}
use Rattle.path_constraints.specs.Questions.{FitsPath, Stands, Fails}
use Rattle.path_constraints.specs.Ticks.{tick_at}
use Rattle.node_expand.specs.declared.solved.Solved.{Solved}

-- the path leaves each visit its tank of the route, and each move its hoist
pub record Settles (l : LineData) (path : List Decision) (s : Solved) : Type 0 where
  pub tank : (c k : ℕ) → IsVisit l c k → tank_below l path c k ≡ Some (route_tank l s.tanks c k)
  pub hoist : (c k : ℕ) → IsMove l c k → hoist_below l path c k ≡ Some (get_or s.hoists (move_number l c k) 0)

-- The ticks, with 0 at the first move, keep every undecided constraint at the period, where all tanks are those of the
-- route, and with these hoists they leave no order of visits or of moves open. Such tanks and hoists are said by a path
-- that settles them: the undecided constraints and the orders below it are those of the route and the hoists.
pub record IsPlannable (l : LineData) (s : Solved) : Type 0 where
  pub ticks : length s.ticks ≡ move_count l
  pub hoists : length s.hoists ≡ move_count l
  pub route : IsRoute l s.tanks
  pub period : (1 ≤ s.period) × (s.period ≤ 20000)
  pub origin : tick_at s.ticks 0 ≡ pos 0
  pub path : List Decision
  pub fits : FitsPath l path
  pub settles : Settles l path s
  pub constraints : (t : Constraint) → IsUndecided t → IsConstraint l path t
      → Keeps (tick_at s.ticks) s.period (arc_of l path t)
  pub orders : (x : Question) → IsOrder x → Stands l path x → Fails l path (tick_at s.ticks) s.period x → ⊥
