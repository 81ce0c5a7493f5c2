-- What can be wrong with a timetable, tick by tick, and which fault is the first.
use Rattle.std.specs.Prelude.{◌≡◌, ◌≢◌, ℕ, ◌+◌, ◌-◌, ◌≤◌, ◌<◌, ◌⊎◌, ◌==◌, if◌then◌else◌, ℤ, pos, ◌-ℤ◌, ◌<ℤ◌, List, [], ◌∷◌, Option, MatchOption}
use Rattle.std.specs.Int.{abs_diff}
use Rattle.hoist_base.specs.LineData.{LineData, stage, last_stage, IsMove, IsVisit}
use Rattle.line_model.specs.Motion.{duration, place}
use Rattle.line_model.specs.Timetable.{Timetable, position, motion}
use Rattle.line_model.specs.Legal.{CarriesAt, HoldsAt}
use Rattle.timetable.specs.declared.fault.Fault.{Fault}
use Rattle.timetable.specs.declared.fault.Fault.TheVariants.{Track, Gap, Speed, Motion, Carry, Dwell, Numbering, Hold}

-- a hoist is above the track
abbrev pub IsAbove : LineData → Timetable → ℕ → ℕ → Type 0
IsAbove l p h t = (h < l.hoists) × (t < p.period) × (l.track < position p h t)

-- the next hoist is nearer to a hoist than the gap
abbrev pub AreNear : LineData → Timetable → ℕ → ℕ → Type 0
AreNear l p h t = (h + 1 < l.hoists) × (t < p.period) × (position p (h + 1) t < position p h t + l.gap)

-- a hoist changes its position by more than 1 to the next tick
abbrev pub IsFast : LineData → Timetable → ℕ → ℕ → Type 0
IsFast l p h t = (h < l.hoists) × (t < p.period) × (1 < abs_diff (position p h t) (position p h (t + 1)))

-- u ticks after the start of a move its hoist is not where the motion has it
abbrev pub IsAstray : LineData → Timetable → ℕ → ℕ → ℕ → Type 0
IsAstray l p c k u =
    IsMove l c k × (u ≤ duration (motion l p c k))
    × (position p (p.hoist c k) (p.start c k + u) ≢ place (motion l p c k) u)

-- of two names of moves or visits, the first does not come after the second
abbrev pub AreInOrder : ℕ → ℕ → ℕ → ℕ → Type 0
AreInOrder c k c' k' = (c < c') ⊎ ((c ≡ c') × (k ≤ k'))

-- two different copies, the second so many periods later than the first, named in order
abbrev pub AreTwo : ℕ → ℕ → ℕ → ℕ → ℤ → Type 0
AreTwo c k c' k' shift = AreInOrder c k c' k' × ((c ≡ c') × (k ≡ k') × (shift ≡ pos 0) → ⊥)

-- one hoist carries at one tick by two moves
abbrev pub CarriesTwo : LineData → Timetable → ℕ → ℕ → ℕ → ℕ → ℤ → Type 0
CarriesTwo l p c k c' k' shift =
    AreTwo c k c' k' shift
    × ((h : ℕ) × (t : ℕ) × (z : ℕ) × (z' : ℕ) × CarriesAt l p h c k z t × CarriesAt l p h c' k' z' t × (shift ≡ pos z' -ℤ pos z))

-- two visits hold one tank at one tick
abbrev pub HoldTwo : LineData → Timetable → ℕ → ℕ → ℕ → ℕ → ℤ → Type 0
HoldTwo l p c k c' k' shift =
    AreTwo c k c' k' shift
    × ((i : ℕ) × (t : ℕ) × (z : ℕ) × (z' : ℕ) × HoldsAt l p i c k z t × HoldsAt l p i c' k' z' t × (shift ≡ pos z' -ℤ pos z))

-- when a carrier begins to rest in its tank of a stage: it is put on, or has been set down
abbrev pub arrival : LineData → Timetable → ℕ → ℕ → ℕ
arrival l p c k = if k == 0 then p.put c else p.start c (k - 1) + duration (motion l p c (k - 1))

-- when it is lifted or taken off there
abbrev pub departure : LineData → Timetable → ℕ → ℕ → ℕ
departure l p c k = if k == last_stage l then p.off c else p.start c k

-- the ticks between; below 0 where it would leave before it comes
abbrev pub dwell : LineData → Timetable → ℕ → ℕ → ℤ
dwell l p c k = pos (departure l p c k) -ℤ pos (arrival l p c k)

-- the least dwell of a stage, and of the stations
abbrev pub least_dwell : LineData → ℕ → ℕ
least_dwell l k = if k == 0 then l.load else (if k == last_stage l then l.unload else (stage l k).min)

-- the dwell of a visit is below the least, or above the greatest where there is one
abbrev pub IsOutside : LineData → Timetable → ℕ → ℕ → Type 0
IsOutside l p c k =
    IsVisit l c k
    × ((dwell l p c k <ℤ pos (least_dwell l k)) ⊎ MatchOption (stage l k).max ⊥ (λ m. pos m <ℤ dwell l p c k))

-- when the carrier after c is put on; after the last comes the first of the next period
abbrev pub next_put : LineData → Timetable → ℕ → ℕ
next_put l p c = if c + 1 == l.degree then p.put 0 + p.period else p.put (c + 1)

-- a carrier is not put on before the next one
abbrev pub IsLate : LineData → Timetable → ℕ → Type 0
IsLate l p c = (c < l.degree) × (next_put l p c ≤ p.put c)

-- the timetable has this fault, with these values
abbrev pub HasFault : LineData → Timetable → Fault → Type 0
HasFault l p (Track h t at) = IsAbove l p h t × (at ≡ position p h t)
HasFault l p (Gap h t low high) = AreNear l p h t × (low ≡ position p h t) × (high ≡ position p (h + 1) t)
HasFault l p (Speed h t old new) = IsFast l p h t × (old ≡ position p h t) × (new ≡ position p h (t + 1))
HasFault l p (Motion m u want seen) =
    IsAstray l p m.carrier m.step u × (want ≡ place (motion l p m.carrier m.step) u)
    × (seen ≡ position p (p.hoist m.carrier m.step) (p.start m.carrier m.step + u))
HasFault l p (Carry a b shift) = CarriesTwo l p a.carrier a.step b.carrier b.step shift
HasFault l p (Dwell v ticks) = IsOutside l p v.carrier v.stage × (ticks ≡ dwell l p v.carrier v.stage)
HasFault l p (Numbering c put next) = IsLate l p c × (put ≡ p.put c) × (next ≡ next_put l p c)
HasFault l p (Hold a b shift) = HoldTwo l p a.carrier a.stage b.carrier b.stage shift

-- the order of the rules
abbrev pub rule_of : Fault → ℕ
rule_of (Track _ _ _) = 0
rule_of (Gap _ _ _ _) = 1
rule_of (Speed _ _ _ _) = 2
rule_of (Motion _ _ _ _) = 3
rule_of (Carry _ _ _) = 4
rule_of (Dwell _ _) = 5
rule_of (Numbering _ _ _) = 6
rule_of (Hold _ _ _) = 7

-- the values of a fault, in the order of its fields
abbrev pub values_of : Fault → List ℤ
values_of (Track h t at) = pos h ∷ pos t ∷ pos at ∷ []
values_of (Gap h t low high) = pos h ∷ pos t ∷ pos low ∷ pos high ∷ []
values_of (Speed h t old new) = pos h ∷ pos t ∷ pos old ∷ pos new ∷ []
values_of (Motion m u want seen) = pos m.carrier ∷ pos m.step ∷ pos u ∷ pos want ∷ pos seen ∷ []
values_of (Carry a b shift) = pos a.carrier ∷ pos a.step ∷ pos b.carrier ∷ pos b.step ∷ shift ∷ []
values_of (Dwell v ticks) = pos v.carrier ∷ pos v.stage ∷ ticks ∷ []
values_of (Numbering c put next) = pos c ∷ pos put ∷ pos next ∷ []
values_of (Hold a b shift) = pos a.carrier ∷ pos a.stage ∷ pos b.carrier ∷ pos b.stage ∷ shift ∷ []

-- of two lists of values, the first is less at the first place where they differ
abbrev pub IsLess : List ℤ → List ℤ → Type 0
IsLess [] ys = ⊥
IsLess (x ∷ xs) [] = ⊥
IsLess (x ∷ xs) (y ∷ ys) = (x <ℤ y) ⊎ ((x ≡ y) × IsLess xs ys)

-- faults go by rule, then by their values
abbrev pub IsEarlier : Fault → Fault → Type 0
IsEarlier f g = (rule_of f < rule_of g) ⊎ ((rule_of f ≡ rule_of g) × IsLess (values_of f) (values_of g))

-- the timetable has this fault and none that is earlier
pub record IsFirstFault (l : LineData) (p : Timetable) (f : Fault) : Type 0 where
  pub has : HasFault l p f
  pub first : (g : Fault) → HasFault l p g → IsEarlier g f → ⊥

-- the answer for one rule: the first of its faults, or none where there is none
abbrev pub IsFirstOf : ℕ → LineData → Timetable → Option Fault → Type 0
IsFirstOf rule l p answer =
    MatchOption answer ((g : Fault) → HasFault l p g → rule_of g ≢ rule)
    (λ f. HasFault l p f × (rule_of f ≡ rule)
    × ((g : Fault) → HasFault l p g → rule_of g ≡ rule → IsLess (values_of g) (values_of f) → ⊥))
