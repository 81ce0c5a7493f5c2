-- A path of decisions on tanks and hoists alone, which gives each visit its tank of a timetable and each move its
-- hoist.
use Rattle.std.specs.Prelude.{◌≡◌, ℕ, ◌+◌, ◌<◌, ◌≤◌, List, length, Some, None, All}
use Rattle.hoist_base.specs.LineData.{LineData, stage, visit_at, move_at, visit_count, IsMove, IsVisit}
use Rattle.line_model.specs.Timetable.{Timetable, motion}
use Rattle.choice_tree.specs.declared.question.Decision.{Decision}
use Rattle.path_constraints.specs.Tanks.{choice_of, tank_below}
use Rattle.path_constraints.specs.Hoists.{assigned_of, hoists_reaching, hoist_below}
use Rattle.path_constraints.specs.Constraints.{IsOrder}
use Rattle.path_constraints.specs.Questions.{FitsPath}
use Rattle.path_constraints.specs.Meets.{MeetsPath}

-- no order of visits or of moves is decided
abbrev pub DecidesNoOrder : List Decision → Type 0
DecidesNoOrder path = All (λ (d : Decision). IsOrder d.question → ⊥) path

pub record IsChosen (l : LineData) (p : Timetable) (path : List Decision) : Type 0 where
  pub fits : FitsPath l path
  pub meets : MeetsPath l p path
  pub tanks : (c k : ℕ) → IsVisit l c k → tank_below l path c k ≡ Some (p.tank c k)
  pub hoists : (c k : ℕ) → IsMove l c k → hoist_below l path c k ≡ Some (p.hoist c k)
  pub free : DecidesNoOrder path

-- ---- on the way

-- the tanks of the first visits are decided, where there are several, and nothing else
pub record ChoosesBelow (l : LineData) (p : Timetable) (path : List Decision) (n : ℕ) : Type 0 where
  pub fits : FitsPath l path
  pub meets : MeetsPath l p path
  pub short : length path ≤ n
  pub made : (j : ℕ) → j < n → choice_of path (visit_at l j).carrier (visit_at l j).stage ≡ None
      → length (stage l (visit_at l j).stage).tanks < 2
  pub open_yet : (j : ℕ) → n ≤ j → choice_of path (visit_at l j).carrier (visit_at l j).stage ≡ None
  pub unassigned : (c k : ℕ) → assigned_of path c k ≡ None
  pub free : DecidesNoOrder path

-- all tanks are decided, and the hoists of the first moves, where several reach them
pub record AssignsBelow (l : LineData) (p : Timetable) (path : List Decision) (n : ℕ) : Type 0 where
  pub fits : FitsPath l path
  pub meets : MeetsPath l p path
  pub short : length path ≤ visit_count l + n
  pub tanks : (c k : ℕ) → IsVisit l c k → tank_below l path c k ≡ Some (p.tank c k)
  pub made : (j : ℕ) → j < n → assigned_of path (move_at l j).carrier (move_at l j).step ≡ None
      → length (hoists_reaching l (motion l p (move_at l j).carrier (move_at l j).step)) < 2
  pub open_yet : (j : ℕ) → n ≤ j → assigned_of path (move_at l j).carrier (move_at l j).step ≡ None
  pub free : DecidesNoOrder path
