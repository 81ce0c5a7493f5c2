-- Timetables unrolled over all whole numbers of periods and all whole ticks.
use Rattle.std.specs.Prelude.{◌≡◌, ℕ, ◌+◌, ◌↔◌, ℤ, pos, ◌+ℤ◌, ◌*ℤ◌, ◌≤ℤ◌, ◌<ℤ◌}
use Rattle.hoist_base.specs.LineData.{LineData, IsMove, IsVisit}
use Rattle.line_model.specs.Motion.{duration}
use Rattle.line_model.specs.Timetable.{Timetable, motion}
use Rattle.line_model.specs.Legal.{CarriesAt, AreHeldAlone, hold_begin, hold_end}

-- tick t of a carrier's plan, z periods later, or earlier where z is negative
abbrev pub moved : Timetable → ℤ → ℕ → ℤ
moved p z t = pos t +ℤ z *ℤ pos p.period

-- hoist h carries at tick t by move (c, k), moved by z periods
pub record CarriesAtWhole (l : LineData) (p : Timetable) (h c k : ℕ) (z t : ℤ) : Type 0 where
  pub move : IsMove l c k
  pub hoist : p.hoist c k ≡ h
  pub from : moved p z (p.start c k) ≤ℤ t
  pub before : t <ℤ moved p z (p.start c k + duration (motion l p c k))

-- visit (c, k), moved by z periods, holds tank i at tick t
pub record HoldsAtWhole (l : LineData) (p : Timetable) (i c k : ℕ) (z t : ℤ) : Type 0 where
  pub visit : IsVisit l c k
  pub tank : p.tank c k ≡ i
  pub from : moved p z (hold_begin l p c k) ≤ℤ t
  pub before : t <ℤ moved p z (hold_end l p c k)

-- over natural numbers of periods, and over whole ones
abbrev pub CarriedAlone : LineData → Timetable → Type 0
CarriedAlone l p =
    (h t c k z c' k' z' : ℕ) → CarriesAt l p h c k z t → CarriesAt l p h c' k' z' t → (c ≡ c') × (k ≡ k') × (z ≡ z')

abbrev pub CarriedAloneWhole : LineData → Timetable → Type 0
CarriedAloneWhole l p =
    (h c k c' k' : ℕ) (z z' t : ℤ) → CarriesAtWhole l p h c k z t → CarriesAtWhole l p h c' k' z' t
    → (c ≡ c') × (k ≡ k') × (z ≡ z')

abbrev pub HeldAloneWhole : LineData → Timetable → Type 0
HeldAloneWhole l p =
    (i c k c' k' : ℕ) (z z' t : ℤ) → HoldsAtWhole l p i c k z t → HoldsAtWhole l p i c' k' z' t
    → (c ≡ c') × (k ≡ k') × (z ≡ z')

-- for every line and timetable they say the same
abbrev pub SameOverWholePeriods : Type 0
SameOverWholePeriods =
    (l : LineData) (p : Timetable)
    → (CarriedAlone l p ↔ CarriedAloneWhole l p) × (AreHeldAlone l p ↔ HeldAloneWhole l p)
