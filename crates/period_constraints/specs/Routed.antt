-- What is asked where the tank of each visit and the hoists that are assigned are known, by the numbers of visits and
-- moves.
use Rattle.std.specs.Prelude.{◌≡◌, ◌≢◌, ℕ, ◌<◌, List, length, get_or, Option, None, IsSomeAnd, ℤ, ◌<ℤ◌, neg_ℤ}
use Rattle.hoist_base.specs.LineData.{LineData, move_count, visit_count, visit_at, move_at}
use Rattle.path_constraints.specs.Hoists.{hoists_reaching}
use Rattle.path_constraints.specs.Questions.{HoldTogether, offset_of}
use Rattle.period_constraints.specs.Stays.{motion_by, lasting}
use Rattle.period_constraints.specs.Starts.{clash_rides, ride_by}

-- visits i and j, that q periods later, hold one tank at one tick
pub record HoldOneTank (l : LineData) (tanks : List ℕ) (ticks : ℕ → ℤ) (period : ℕ) (i j : ℕ) (q : ℤ) : Type 0 where
  pub before : i < j
  pub there : j < visit_count l
  pub tank : get_or tanks i 0 ≡ get_or tanks j 0
  pub together : HoldTogether l (lasting l tanks) ticks period (visit_at l i) (visit_at l j) q

-- moves i and j, that q periods later, clash
pub record ClashByRides (l : LineData) (tanks : List ℕ) (assigned : List (Option ℕ)) (ticks : ℕ → ℤ) (period : ℕ) (i j : ℕ) (q : ℤ) : Type 0 where
  pub before : i < j
  pub there : j < move_count l
  pub clash : IsSomeAnd (clash_rides l (ride_by l tanks (get_or assigned i None) (move_at l i).carrier (move_at l i).step)
      (ride_by l tanks (get_or assigned j None) (move_at l j).carrier (move_at l j).step))
      (λ span. (neg_ℤ span.before <ℤ offset_of l ticks period (move_at l i) (move_at l j) q)
      × (offset_of l ticks period (move_at l i) (move_at l j) q <ℤ span.after))

-- no hoist is assigned to move i, and not one alone reaches it
pub record IsUnassigned (l : LineData) (tanks : List ℕ) (assigned : List (Option ℕ)) (i : ℕ) : Type 0 where
  pub there : i < move_count l
  pub none : get_or assigned i None ≡ None
  pub several : length (hoists_reaching l (motion_by l tanks (move_at l i).carrier (move_at l i).step)) ≢ 1
