-- Which questions may be asked below a path, what their children are, and which of them ticks answer already.
use Rattle.std.specs.Prelude.{◌≡◌, ◌≢◌, ℕ, ◌-◌, ◌<◌, ◌≤◌, ◌⊎◌, List, length, take, IsSome, IsSomeAnd, Some, None, ℤ, pos, ◌-ℤ◌, ◌<ℤ◌, neg_ℤ, unsigned_abs}
use Rattle.hoist_base.specs.LineData.{LineData, stage, move_number, IsMove, IsVisit}
use Rattle.hoist_base.specs.declared.ids.MoveId.{MoveId}
use Rattle.hoist_base.specs.declared.ids.VisitId.{VisitId}
use Rattle.choice_tree.specs.declared.question.Question.{Question}
use Rattle.choice_tree.specs.declared.question.Question.TheVariants.{Assign, TankOrder, HoistOrder, Choose}
use Rattle.choice_tree.specs.declared.question.Decision.{Decision}
use Rattle.path_constraints.specs.Tanks.{decision_at, choice_of, tank_below, motion_below, low}
use Rattle.path_constraints.specs.Hoists.{assigned_of, hoists_below, clash_below}
use Rattle.path_constraints.specs.Holds.{begin_of, end_of, tick_of, periods_later}

-- the order of visits and of moves: by carrier, then by stage or step
abbrev pub IsBefore : ℕ → ℕ → ℕ → ℕ → Type 0
IsBefore c k c' k' = (c < c') ⊎ ((c ≡ c') × (k < k'))

-- the begin of the hold of visit (c, k) is settled: the visit before has one tank
abbrev pub HasBegin : LineData → List Decision → ℕ → ℕ → Type 0
HasBegin l path c k = 0 < k → IsSome (tank_below l path c (k - 1))

-- a and b are visits in their order that have one tank each below the path, the same, and the begins of whose holds are
-- settled
pub record ShareTank (l : LineData) (path : List Decision) (a b : VisitId) : Type 0 where
  pub first : IsVisit l a.carrier a.stage
  pub second : IsVisit l b.carrier b.stage
  pub before : IsBefore a.carrier a.stage b.carrier b.stage
  pub tank : ℕ
  pub first_tank : tank_below l path a.carrier a.stage ≡ Some tank
  pub second_tank : tank_below l path b.carrier b.stage ≡ Some tank
  pub first_begin : HasBegin l path a.carrier a.stage
  pub second_begin : HasBegin l path b.carrier b.stage

-- a and b are moves in their order that clash
pub record MayClash (l : LineData) (path : List Decision) (a b : MoveId) : Type 0 where
  pub first : IsMove l a.carrier a.step
  pub second : IsMove l b.carrier b.step
  pub before : IsBefore a.carrier a.step b.carrier b.step
  pub clash : IsSome (clash_below l path a b)

-- the stage of v has a choice, and none is made on the path
pub record IsOpenVisit (l : LineData) (path : List Decision) (v : VisitId) : Type 0 where
  pub visit : IsVisit l v.carrier v.stage
  pub several : 2 ≤ length (stage l v.stage).tanks
  pub open_yet : choice_of path v.carrier v.stage ≡ None

-- m has one motion below the path, no hoist on the path, and not one hoist alone that reaches it
pub record IsOpenMove (l : LineData) (path : List Decision) (m : MoveId) : Type 0 where
  pub move : IsMove l m.carrier m.step
  pub motion : IsSome (motion_below l path m.carrier m.step)
  pub open_yet : assigned_of path m.carrier m.step ≡ None
  pub several : length (hoists_below l path m.carrier m.step) ≢ 1

-- the question may stand below the path, whatever the size of its q
abbrev pub Stands : LineData → List Decision → Question → Type 0
Stands l path (Assign m) = IsOpenMove l path m
Stands l path (TankOrder a b q) = ShareTank l path a b
Stands l path (HoistOrder a b q) = MayClash l path a b
Stands l path (Choose v) = IsOpenVisit l path v

-- the periods by which the second of an order is moved
abbrev pub shift_of : Question → ℤ
shift_of (Assign m) = pos 0
shift_of (TankOrder a b q) = q
shift_of (HoistOrder a b q) = q
shift_of (Choose v) = pos 0

-- the question fits the path: it may stand there, and its q is not too large
pub record Fits (l : LineData) (path : List Decision) (question : Question) : Type 0 where
  pub stands : Stands l path question
  pub small : unsigned_abs (shift_of question) ≤ 1000000000

-- how many children it has: one for each tank of the stage or each hoist that reaches the move, or the two orders
abbrev pub child_count : LineData → List Decision → Question → ℕ
child_count l path (Assign m) = length (hoists_below l path m.carrier m.step)
child_count l path (TankOrder a b q) = 2
child_count l path (HoistOrder a b q) = 2
child_count l path (Choose v) = length (stage l v.stage).tanks

-- the decision's question fits the path above it, and its child is there
pub record FitsDecision (l : LineData) (path : List Decision) (d : Decision) : Type 0 where
  pub question : Fits l path d.question
  pub child : d.child < child_count l path d.question

-- every decision of the path does
abbrev pub FitsPath : LineData → List Decision → Type 0
FitsPath l path = (i : ℕ) → i < length path → FitsDecision l (take i path) (decision_at path i)

-- visits a and b, that q periods later, hold their tank at one tick
abbrev pub HoldTogether : LineData → (ℕ → ℕ → ℕ) → (ℕ → ℤ) → ℕ → VisitId → VisitId → ℤ → Type 0
HoldTogether l d ticks period a b q =
    (periods_later (tick_of l ticks (begin_of l d b.carrier b.stage)) q period <ℤ tick_of l ticks (end_of l d a.carrier a.stage))
    × (tick_of l ticks (begin_of l d a.carrier a.stage) <ℤ periods_later (tick_of l ticks (end_of l d b.carrier b.stage)) q period)

-- how many ticks after move a move b starts, that q periods later
abbrev pub offset_of : LineData → (ℕ → ℤ) → ℕ → MoveId → MoveId → ℤ → ℤ
offset_of l ticks period a b q =
    periods_later (ticks (move_number l b.carrier b.step)) q period -ℤ ticks (move_number l a.carrier a.step)

-- the ticks leave the question open at the period: a choice always; an order where it comes neither way
abbrev pub Fails : LineData → List Decision → (ℕ → ℤ) → ℕ → Question → Type 0
Fails l path ticks period (Assign m) = Unit {0}
Fails l path ticks period (TankOrder a b q) = HoldTogether l (low l path) ticks period a b q
Fails l path ticks period (HoistOrder a b q) =
    IsSomeAnd (clash_below l path a b)
    (λ span. (neg_ℤ span.before <ℤ offset_of l ticks period a b q) × (offset_of l ticks period a b q <ℤ span.after))
Fails l path ticks period (Choose v) = Unit {0}
