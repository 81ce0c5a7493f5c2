-- Which two fixed points that contradict one another come first.
use Rattle.std.specs.Prelude.{◌≡◌, ℕ, ◌+◌, ◌-◌, ◌%◌, ◌<◌, ◌≤◌, ◌⊎◌, ℤ, pos, ◌+ℤ◌, ◌-ℤ◌, ◌*ℤ◌, ◌≤ℤ◌, unsigned_abs}
use Rattle.hoist_base.specs.LineData.{LineData, IsMove, move_number}
use Rattle.line_model.specs.Motion.{duration, place}
use Rattle.line_model.specs.Timetable.{Timetable, motion}
use Rattle.path_envelope.specs.declared.point.Point.{Point}
use Rattle.path_envelope.specs.Duties.{Contradict, apart}

-- a fixed point of the starts as given, by its move and the ticks since the start
pub record Given : Type 0 where
  pub carrier : ℕ
  pub step : ℕ
  pub ticks : ℕ

pub record IsGiven (l : LineData) (p : Timetable) (g : Given) : Type 0 where
  pub move : IsMove l g.carrier g.step
  pub within : g.ticks ≤ duration (motion l p g.carrier g.step)

-- its copy z periods later
abbrev pub copy : LineData → Timetable → Given → ℤ → Point
copy l p g z = record {
  hoist = p.hoist g.carrier g.step;
  tick = pos (p.start g.carrier g.step + g.ticks) +ℤ z *ℤ pos p.period;
  at = place (motion l p g.carrier g.step) g.ticks;
}

abbrev pub hoist_of : Timetable → Given → ℕ
hoist_of p g = p.hoist g.carrier g.step

abbrev pub number_of : LineData → Given → ℕ
number_of l g = move_number l g.carrier g.step

-- fixed points are ordered by hoist, then by move, then by the ticks since its start
abbrev pub IsBefore : LineData → Timetable → Given → Given → Type 0
IsBefore l p g h =
    (hoist_of p g < hoist_of p h)
    ⊎ ((hoist_of p g ≡ hoist_of p h)
    × ((number_of l g < number_of l h) ⊎ ((number_of l g ≡ number_of l h) × (g.ticks < h.ticks))))

-- the first fixed point of a kind
pub record IsFirst (l : LineData) (p : Timetable) (IsOfKind : Given → Type 0) (g : Given) : Type 0 where
  pub given : IsGiven l p g
  pub kind : IsOfKind g
  pub none_before : (other : Given) → IsGiven l p other → IsBefore l p other g → IsOfKind other → ⊥

-- a fixed point, by itself or by one of its copies, contradicts a point
abbrev pub IsPartner : LineData → Timetable → Point → Given → Type 0
IsPartner l p x g = (z : ℤ) × Contradict l x (copy l p g z)

abbrev pub HasPartner : LineData → Timetable → Given → Type 0
HasPartner l p g = (other : Given) × IsGiven l p other × IsPartner l p (copy l p g (pos 0)) other

-- of a fixed point's copies, the one z periods later is nearest to a point, and the earlier one where two are equally
-- near
abbrev pub IsNearest : LineData → Timetable → Point → Given → ℤ → Type 0
IsNearest l p x g z =
    (w : ℤ) → (apart x (copy l p g z) ≤ apart x (copy l p g w)) × (apart x (copy l p g w) ≡ apart x (copy l p g z) → z ≤ℤ w)

-- y is the first partner of x, in its nearest copy
pub record IsFirstPartner (l : LineData) (p : Timetable) (x y : Point) : Type 0 where
  pub partner : Given
  pub z : ℤ
  pub first : IsFirst l p (IsPartner l p x) partner
  pub nearest : IsNearest l p x partner z
  pub is : y ≡ copy l p partner z

-- x is the first fixed point that has a partner, and y its first partner
pub record IsFirstClash (l : LineData) (p : Timetable) (x y : Point) : Type 0 where
  pub point : Given
  pub first : IsFirst l p (HasPartner l p) point
  pub is : x ≡ copy l p point (pos 0)
  pub partner : IsFirstPartner l p x y

-- of a tick and its copies, whole periods away, the one nearest to another tick, and the earlier of two that are
-- equally near
abbrev pub IsNearestTick : ℕ → ℤ → ℕ → ℤ → Type 0
IsNearestTick period to tick result =
    (z : ℤ) × (result ≡ pos tick +ℤ z *ℤ pos period)
    × ((w : ℤ)
    → (unsigned_abs (to -ℤ result) ≤ unsigned_abs (to -ℤ (pos tick +ℤ w *ℤ pos period)))
    × (unsigned_abs (to -ℤ (pos tick +ℤ w *ℤ pos period)) ≡ unsigned_abs (to -ℤ result) → z ≤ℤ w))

-- how many ticks after a tick the next copy of another comes
abbrev pub wait : ℕ → ℕ → ℕ → ℕ
wait period to tick = (tick % period + period - to % period) % period

-- no fixed point of a move, of a hoist's moves numbered below n, of the hoists below h is of a kind
abbrev pub NoneOfMove : LineData → Timetable → (Given → Type 0) → ℕ → Type 0
NoneOfMove l p IsOfKind n = (g : Given) → IsGiven l p g → number_of l g ≡ n → IsOfKind g → ⊥

abbrev pub NoneOfHoist : LineData → Timetable → (Given → Type 0) → ℕ → ℕ → Type 0
NoneOfHoist l p IsOfKind h n = (g : Given) → IsGiven l p g → hoist_of p g ≡ h → number_of l g < n → IsOfKind g → ⊥

abbrev pub NoneOfHoists : LineData → Timetable → (Given → Type 0) → ℕ → Type 0
NoneOfHoists l p IsOfKind h = (g : Given) → IsGiven l p g → hoist_of p g < h → IsOfKind g → ⊥

-- the first of a kind among a move's fixed points, and among a hoist's
pub record IsFirstOfMove (l : LineData) (p : Timetable) (IsOfKind : Given → Type 0) (n : ℕ) (g : Given) : Type 0 where
  pub given : IsGiven l p g
  pub number : number_of l g ≡ n
  pub kind : IsOfKind g
  pub none_before : (other : Given) → IsGiven l p other → number_of l other ≡ n → other.ticks < g.ticks → IsOfKind other
      → ⊥

pub record IsFirstOfHoist (l : LineData) (p : Timetable) (IsOfKind : Given → Type 0) (h : ℕ) (g : Given) : Type 0 where
  pub given : IsGiven l p g
  pub hoist : hoist_of p g ≡ h
  pub kind : IsOfKind g
  pub none_before : (other : Given) → IsGiven l p other → hoist_of p other ≡ h → IsBefore l p other g → IsOfKind other
      → ⊥

-- y is the copy of a fixed point that is nearest to x
abbrev pub IsNearestCopy : LineData → Timetable → Point → Given → Point → Type 0
IsNearestCopy l p x g y = (z : ℤ) × IsNearest l p x g z × (y ≡ copy l p g z)

-- x is a fixed point itself, and y its first partner
abbrev pub AreClash : LineData → Timetable → Given → Point × Point → Type 0
AreClash l p g pair = (pair.0 ≡ copy l p g (pos 0)) × IsFirstPartner l p pair.0 pair.1

-- a point that is where a hoist of the line can be, at a tick of the starts as given
pub record IsSmall (l : LineData) (x : Point) : Type 0 where
  pub hoist : x.hoist < l.hoists
  pub at : x.at ≤ 1000
  pub from : pos 0 ≤ℤ x.tick
  pub to : x.tick ≤ℤ pos 1000002000
