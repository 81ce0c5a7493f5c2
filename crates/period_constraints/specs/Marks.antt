-- The choices on a path by the numbers of the visits and of the moves.
use Rattle.std.specs.Prelude.{◌≡◌, ℕ, ◌<◌, ◌≤◌, List, length, get_or, unwrap_or, Option, None}
use Rattle.hoist_base.specs.LineData.{LineData, stage, move_count, visit_count, visit_at, move_at}
use Rattle.choice_tree.specs.declared.question.Decision.{Decision}
use Rattle.path_constraints.specs.Tanks.{choice_of}
use Rattle.path_constraints.specs.Hoists.{assigned_of}

-- for each visit which tank of its stage it has by its Choose
abbrev pub AreChoices : LineData → List Decision → List (Option ℕ) → Type 0
AreChoices l path xs =
    (visit_count l ≤ length xs)
    × ((i : ℕ) → i < visit_count l → get_or xs i None ≡ choice_of path (visit_at l i).carrier (visit_at l i).stage)

-- for each move which of the hoists that reach it it has by its Assign
abbrev pub AreAssigned : LineData → List Decision → List (Option ℕ) → Type 0
AreAssigned l path xs =
    (move_count l ≤ length xs)
    × ((i : ℕ) → i < move_count l → get_or xs i None ≡ assigned_of path (move_at l i).carrier (move_at l i).step)

-- the stage of visit i has a choice, and none is noted
abbrev pub IsOpenByChoices : LineData → List (Option ℕ) → ℕ → Type 0
IsOpenByChoices l choices i =
    (i < visit_count l) × (2 ≤ length (stage l (visit_at l i).stage).tanks) × (get_or choices i None ≡ None)

-- which of the tanks of its stage visit i has: the one that is chosen, or the first
abbrev pub place_by : List (Option ℕ) → ℕ → ℕ
place_by choices i = unwrap_or (get_or choices i None) 0

-- each is there
pub record HaveTanks (l : LineData) (choices : List (Option ℕ)) : Type 0 where
  pub room : visit_count l ≤ length choices
  pub there : (i : ℕ) → i < visit_count l → place_by choices i < length (stage l (visit_at l i).stage).tanks

-- the tank of each visit
pub record AreChosen (l : LineData) (choices : List (Option ℕ)) (tanks : List ℕ) : Type 0 where
  pub room : visit_count l ≤ length tanks
  pub each : (i : ℕ) → i < visit_count l
      → get_or tanks i 0 ≡ get_or (stage l (visit_at l i).stage).tanks (place_by choices i) 0
