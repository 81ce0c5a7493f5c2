-- What moves ask of their hoists: a timetable whose paths, puts and offs are left open; and what it fixes.
use Rattle.std.specs.Prelude.{◌≡◌, ℕ, ◌+◌, ◌*◌, ◌-◌, ◌<◌, ◌≤◌, ◌⊎◌, List, get_or, ℤ, pos, ◌+ℤ◌, ◌-ℤ◌, ◌*ℤ◌, unsigned_abs}
use Rattle.std.specs.Int.{abs_diff}
use Rattle.hoist_base.specs.LineData.{LineData, move_number, IsMove}
use Rattle.hoist_base.specs.Routes.{route_tank}
use Rattle.line_model.specs.Motion.{duration, place, ReachesMotion}
use Rattle.line_model.specs.Timetable.{Timetable, motion}
use Rattle.path_envelope.specs.declared.point.Point.{Point}

-- starts and hoists by the numbers of the moves, and a route, as a timetable
abbrev pub duties : LineData → List ℕ → ℕ → List ℕ → List ℕ → Timetable
duties l route period starts hoists = record {
  period = period;
  put = λ c. 0;
  off = λ c. 0;
  start = λ c k. get_or starts (move_number l c k) 0;
  hoist = λ c k. get_or hoists (move_number l c k) 0;
  tank = λ c k. route_tank l route c k;
  path = λ h t. 0;
}

-- each move has a hoist of the line that reaches it
pub record HaveReach (l : LineData) (p : Timetable) : Type 0 where
  pub hoist : (c k : ℕ) → IsMove l c k → p.hoist c k < l.hoists
  pub reach : (c k : ℕ) → IsMove l c k → ReachesMotion l (p.hoist c k) (motion l p c k)

-- move (c, k), z periods later, fixes where its hoist is u ticks after its start
pub record FixedBy (l : LineData) (p : Timetable) (c k u : ℕ) (z : ℤ) (x : Point) : Type 0 where
  pub move : IsMove l c k
  pub within : u ≤ duration (motion l p c k)
  pub hoist : x.hoist ≡ p.hoist c k
  pub tick : x.tick ≡ pos (p.start c k + u) +ℤ z *ℤ pos p.period
  pub at : x.at ≡ place (motion l p c k) u

-- a point that is fixed by some move in some period
abbrev pub IsFixed : LineData → Timetable → Point → Type 0
IsFixed l p x = (c : ℕ) × (k : ℕ) × (u : ℕ) × (z : ℤ) × FixedBy l p c k u z x

-- how many ticks two points are apart
abbrev pub apart : Point → Point → ℕ
apart x y = unsigned_abs (x.tick -ℤ y.tick)

-- a lower hoist at x and a higher one at y lack room between them, even if both travel at full speed in the ticks
-- between
abbrev pub LackRoom : LineData → Point → Point → Type 0
LackRoom l x y = (x.hoist < y.hoist) × (y.at + apart x y < x.at + (y.hoist - x.hoist) * l.gap)

-- no positions that keep to the track go through both points
abbrev pub Contradict : LineData → Point → Point → Type 0
Contradict l x y =
    ((x.hoist ≡ y.hoist) × (apart x y < abs_diff x.at y.at)) ⊎ (LackRoom l x y ⊎ LackRoom l y x)

-- no two fixed points contradict one another
abbrev pub Agree : LineData → Timetable → Type 0
Agree l p = (x y : Point) → IsFixed l p x → IsFixed l p y → Contradict l x y → ⊥
