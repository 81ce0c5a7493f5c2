-- Visits and moves by their numbers, and the first pair of them that is asked.
use Rattle.std.specs.Prelude.{◌≡◌, ℕ, ◌<◌, ◌⊎◌, List, Option, Some, None, ℤ, pos, ◌<ℤ◌, ◌≤ℤ◌, ◌+ℤ◌, ◌*ℤ◌}
use Rattle.hoist_base.specs.LineData.{LineData, visit_count, visit_at, move_count, move_at}
use Rattle.choice_tree.specs.declared.question.Question.{Question}
use Rattle.choice_tree.specs.declared.question.Question.TheVariants.{TankOrder, HoistOrder}
use Rattle.choice_tree.specs.declared.question.Decision.{Decision}
pub use Rattle.period_constraints.specs.declared.pairs.Pair.{Pair}
use Rattle.path_constraints.specs.Questions.{IsOpenVisit, IsOpenMove}
use Rattle.period_constraints.specs.Order.{IsAsked}

-- visit or move i is open to a choice of its tank or of its hoist
abbrev pub IsOpenVisitAt : LineData → List Decision → ℕ → Type 0
IsOpenVisitAt l path i = (i < visit_count l) × IsOpenVisit l path (visit_at l i)

abbrev pub IsOpenMoveAt : LineData → List Decision → ℕ → Type 0
IsOpenMoveAt l path i = (i < move_count l) × IsOpenMove l path (move_at l i)

-- the first number with P, or none where no number has it
abbrev pub IsFirstNumber : (ℕ → Type 0) → Option ℕ → Type 0
IsFirstNumber P None = (i : ℕ) → P i → ⊥
IsFirstNumber P (Some n) = P n × ((i : ℕ) → i < n → P i → ⊥)

-- the first q with P, from the most negative
abbrev pub IsFirstShift : (ℤ → Type 0) → Option ℤ → Type 0
IsFirstShift P None = (q : ℤ) → P q → ⊥
IsFirstShift P (Some n) = P n × ((q : ℤ) → q <ℤ n → P q → ⊥)

-- q periods are the first above a number
pub record IsNextShift (low : ℤ) (period : ℕ) (q : ℤ) : Type 0 where
  pub above : low <ℤ (q *ℤ pos period)
  pub near : (q *ℤ pos period) ≤ℤ (low +ℤ pos period)

-- so many periods lie strictly between two numbers
abbrev pub IsBetween : ℤ → ℤ → ℕ → ℤ → Type 0
IsBetween low high period q = (low <ℤ (q *ℤ pos period)) × ((q *ℤ pos period) <ℤ high)

-- the first pair with P: by its first, by its second, and by its shift from the most negative
abbrev pub IsEarlier : ℕ → ℕ → ℤ → Pair → Type 0
IsEarlier i j q x = (i < x.first) ⊎ ((i ≡ x.first) × ((j < x.second) ⊎ ((j ≡ x.second) × (q <ℤ x.shift))))

abbrev pub IsFirstPair : (ℕ → ℕ → ℤ → Type 0) → Option Pair → Type 0
IsFirstPair P None = (i j : ℕ) (q : ℤ) → P i j q → ⊥
IsFirstPair P (Some x) = P x.first x.second x.shift × ((i j : ℕ) (q : ℤ) → IsEarlier i j q x → P i j q → ⊥)

-- the order of visits or moves i and j, that q periods later
abbrev pub tank_order : LineData → ℕ → ℕ → ℤ → Question
tank_order l i j q = TankOrder (visit_at l i) (visit_at l j) q

abbrev pub hoist_order : LineData → ℕ → ℕ → ℤ → Question
hoist_order l i j q = HoistOrder (move_at l i) (move_at l j) q

-- it is asked
pub record IsAskedTank (l : LineData) (path : List Decision) (ticks : ℕ → ℤ) (period : ℕ) (i j : ℕ) (q : ℤ) : Type 0 where
  pub before : i < j
  pub there : j < visit_count l
  pub asked : IsAsked l path ticks period (tank_order l i j q)

pub record IsAskedHoist (l : LineData) (path : List Decision) (ticks : ℕ → ℤ) (period : ℕ) (i j : ℕ) (q : ℤ) : Type 0 where
  pub before : i < j
  pub there : j < move_count l
  pub asked : IsAsked l path ticks period (hoist_order l i j q)
