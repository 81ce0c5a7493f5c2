-- In which order a timetable has two visits of one tank, and two moves whose hoists could collide.
use Rattle.std.specs.Prelude.{◌≡◌, ℕ, suc, ◌/◌, IsSome, IsSomeAnd, Option, ℤ, pos, negsuc, ◌-ℤ◌, ◌≤ℤ◌, neg_ℤ}
use Rattle.std.specs.Int.{div_ceil}
use Rattle.hoist_base.specs.LineData.{LineData, IsMove, IsVisit, move_number}
use Rattle.hoist_base.specs.declared.ids.MoveId.{MoveId}
use Rattle.hoist_base.specs.declared.ids.VisitId.{VisitId}
use Rattle.line_model.specs.Timetable.{Timetable}
use Rattle.collision_pairs.specs.declared.span.Span.{Span}
use Rattle.path_constraints.specs.Hoists.{clash_between}
use Rattle.path_constraints.specs.Holds.{begin_of, end_of, tick_of, periods_later}
use Rattle.path_constraints.specs.Questions.{IsBefore, offset_of}
use Rattle.path_constraints.specs.Meets.{ticks_of, durations_of, ride_of}

-- q is the least whole number of which P holds
pub record IsLeastWhole (P : ℤ → Type 0) (q : ℤ) : Type 0 where
  pub holds : P q
  pub least : (z : ℤ) → P z → q ≤ℤ z

-- two visits, named in their order, use one tank
pub record UseOneTank (l : LineData) (p : Timetable) (a b : VisitId) : Type 0 where
  pub first : IsVisit l a.carrier a.stage
  pub second : IsVisit l b.carrier b.stage
  pub before : IsBefore a.carrier a.stage b.carrier b.stage
  pub tank : p.tank a.carrier a.stage ≡ p.tank b.carrier b.stage

-- the offsets of two moves at which their hoists can't both follow them
abbrev pub own_clash : LineData → Timetable → MoveId → MoveId → Option Span
own_clash l p a b = clash_between l (ride_of l p a.carrier a.step) (ride_of l p b.carrier b.step)

-- two moves, named in their order, have such offsets
pub record CanCollide (l : LineData) (p : Timetable) (a b : MoveId) : Type 0 where
  pub first : IsMove l a.carrier a.step
  pub second : IsMove l b.carrier b.step
  pub before : IsBefore a.carrier a.step b.carrier b.step
  pub clash : IsSome (own_clash l p a b)

-- the tick at which a visit begins to hold its tank, and that at which it ends
abbrev pub begin_tick : LineData → Timetable → VisitId → ℤ
begin_tick l p v = tick_of l (ticks_of l p) (begin_of l (durations_of l p) v.carrier v.stage)

abbrev pub end_tick : LineData → Timetable → VisitId → ℤ
end_tick l p v = tick_of l (ticks_of l p) (end_of l (durations_of l p) v.carrier v.stage)

-- visit b, q periods later, begins when visit a has ended
abbrev pub BeginsAfter : LineData → Timetable → VisitId → VisitId → ℤ → Type 0
BeginsAfter l p a b q = end_tick l p a ≤ℤ periods_later (begin_tick l p b) q p.period

-- move b, q periods later, starts so late after move a that no offset from there on is forbidden
abbrev pub StartsAfter : LineData → Timetable → MoveId → MoveId → ℤ → Type 0
StartsAfter l p a b q =
    IsSomeAnd (own_clash l p a b) (λ span. span.after ≤ℤ offset_of l (ticks_of l p) p.period a b q)

-- the order of two visits of one tank: from how many periods on the second comes after the first
abbrev pub IsVisitOrder : LineData → Timetable → VisitId → VisitId → ℤ → Type 0
IsVisitOrder l p a b q = IsLeastWhole (BeginsAfter l p a b) q

-- the order of two moves that can collide
abbrev pub IsMoveOrder : LineData → Timetable → MoveId → MoveId → ℤ → Type 0
IsMoveOrder l p a b q = IsLeastWhole (StartsAfter l p a b) q

-- ---- the orders as numbers

-- the least number of periods that are no fewer ticks than these
abbrev pub periods_for : ℤ → ℕ → ℤ
periods_for (pos ticks) period = pos (div_ceil ticks period)
periods_for (negsuc ticks) period = neg_ℤ (pos (suc ticks / period))

abbrev pub visit_order : LineData → Timetable → VisitId → VisitId → ℤ
visit_order l p a b = periods_for (end_tick l p a -ℤ begin_tick l p b) p.period

abbrev pub start_tick : LineData → Timetable → MoveId → ℤ
start_tick l p m = ticks_of l p (move_number l m.carrier m.step)

-- by their clash
abbrev pub move_order : LineData → Timetable → MoveId → MoveId → Span → ℤ
move_order l p a b span = periods_for (span.after -ℤ (start_tick l p b -ℤ start_tick l p a)) p.period
