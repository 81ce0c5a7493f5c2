-- When a timetable is legal: tick by tick, over all carriers of all periods.
-- Whatever carrier c of a period does, it does again z periods later, with the same hoists and tanks.
use Rattle.std.specs.Prelude.{◌≡◌, ℕ, ◌+◌, ◌-◌, ◌≤◌, ◌<◌, IfSome, if◌then◌else◌, ◌==◌}
use Rattle.hoist_base.specs.LineData.{LineData, stage, last_stage, last_step, IsMove, IsVisit, Serves}
use Rattle.line_model.specs.Motion.{duration, place}
use Rattle.line_model.specs.Timetable.{Timetable, position, later, motion}

-- every tank is one of its stage
abbrev pub IsRouted : LineData → Timetable → Type 0
IsRouted l p = (c k : ℕ) → IsVisit l c k → Serves l (p.tank c k) k

-- positions, one for each hoist, that are on the track and apart
pub record AreSpaced (l : LineData) (at : ℕ → ℕ) : Type 0 where
  pub within : (h : ℕ) → h < l.hoists → at h ≤ l.track
  pub apart : (h : ℕ) → h + 1 < l.hoists → at h + l.gap ≤ at (h + 1)

-- at every tick the hoists are spaced, and to the next tick, the last to the first too, each changes by at most 1
pub record IsTrack (l : LineData) (p : Timetable) : Type 0 where
  pub spaced : (t : ℕ) → AreSpaced l (λ h. position p h t)
  pub up : (h t : ℕ) → h < l.hoists → position p h (t + 1) ≤ position p h t + 1
  pub down : (h t : ℕ) → h < l.hoists → position p h t ≤ position p h (t + 1) + 1

-- hoist h carries at tick t by move (c, k), z periods later
pub record CarriesAt (l : LineData) (p : Timetable) (h c k z t : ℕ) : Type 0 where
  pub move : IsMove l c k
  pub hoist : p.hoist c k ≡ h
  pub from : later p z (p.start c k) ≤ t
  pub before : t < later p z (p.start c k + duration (motion l p c k))

-- every move has a hoist that follows its motion, and no hoist carries by two moves at one tick
pub record IsCarried (l : LineData) (p : Timetable) : Type 0 where
  pub hoist : (c k : ℕ) → IsMove l c k → p.hoist c k < l.hoists
  pub along : (c k u : ℕ) → IsMove l c k → u ≤ duration (motion l p c k)
      → position p (p.hoist c k) (p.start c k + u) ≡ place (motion l p c k) u
  pub alone : (h t c k z c' k' z' : ℕ) → CarriesAt l p h c k z t → CarriesAt l p h c' k' z' t
      → (c ≡ c') × (k ≡ k') × (z ≡ z')

-- a visit holds its tank from when the carrier is put on or begins to be lowered ..
abbrev pub hold_begin : LineData → Timetable → ℕ → ℕ → ℕ
hold_begin l p c k =
    if k == 0 then p.put c else p.start c (k - 1) + duration (motion l p c (k - 1)) - (stage l k).lower

-- .. until it has been lifted out or is taken off
abbrev pub hold_end : LineData → Timetable → ℕ → ℕ → ℕ
hold_end l p c k = if k == last_stage l then p.off c else p.start c k + (stage l k).lift

-- visit (c, k), z periods later, holds tank i at tick t
pub record HoldsAt (l : LineData) (p : Timetable) (i c k z t : ℕ) : Type 0 where
  pub visit : IsVisit l c k
  pub tank : p.tank c k ≡ i
  pub from : later p z (hold_begin l p c k) ≤ t
  pub before : t < later p z (hold_end l p c k)

-- no tank is held by two visits at one tick
abbrev pub AreHeldAlone : LineData → Timetable → Type 0
AreHeldAlone l p =
    (i t c k z c' k' z' : ℕ) → HoldsAt l p i c k z t → HoldsAt l p i c' k' z' t → (c ≡ c') × (k ≡ k') × (z ≡ z')

-- the dwell at every inner stage is in its window, and the stations have their time
pub record HasWindows (l : LineData) (p : Timetable) : Type 0 where
  pub least : (c k : ℕ) → IsMove l c (k + 1)
      → p.start c k + duration (motion l p c k) + (stage l (k + 1)).min ≤ p.start c (k + 1)
  pub greatest : (c k : ℕ) → IsMove l c (k + 1)
      → IfSome (stage l (k + 1)).max (λ m. p.start c (k + 1) ≤ p.start c k + duration (motion l p c k) + m)
  pub load : (c : ℕ) → c < l.degree → p.put c + l.load ≤ p.start c 0
  pub unload : (c : ℕ) → c < l.degree
      → p.start c (last_step l) + duration (motion l p c (last_step l)) + l.unload ≤ p.off c

-- carriers are numbered in the order in which they are put on, the first of the next period last
pub record AreNumbered (l : LineData) (p : Timetable) : Type 0 where
  pub rising : (c : ℕ) → c + 1 < l.degree → p.put c < p.put (c + 1)
  pub around : p.put (l.degree - 1) < p.put 0 + p.period

pub record IsLegal (l : LineData) (p : Timetable) : Type 0 where
  pub period : 1 ≤ p.period
  pub routed : IsRouted l p
  pub track : IsTrack l p
  pub carried : IsCarried l p
  pub held : AreHeldAlone l p
  pub windows : HasWindows l p
  pub numbered : AreNumbered l p

-- no legal timetable has a smaller period, whatever whole number that would be
abbrev pub NoneBelow : LineData → ℕ → Type 0
NoneBelow l period = (p : Timetable) → IsLegal l p → period ≤ p.period

-- the least period of a legal timetable
pub record IsLeast (l : LineData) (period : ℕ) : Type 0 where
  pub some : (p : Timetable) × IsLegal l p × (p.period ≡ period)
  pub none_below : NoneBelow l period
