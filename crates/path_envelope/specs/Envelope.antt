-- The lowest paths through all that moves fix, and which two points tell that there are none.
use Rattle.std.specs.Prelude.{◌≡◌, ℕ, ◌+◌, ◌*◌, ◌-◌, ◌<◌, ◌≤◌, ◌⊎◌, List, length, get_or, pos}
use Rattle.hoist_base.specs.LineData.{LineData, IsMove}
use Rattle.line_model.specs.Motion.{duration, place}
use Rattle.line_model.specs.Timetable.{Timetable, position, motion}
use Rattle.line_model.specs.Legal.{IsTrack}
use Rattle.path_envelope.specs.declared.point.Point.{Point}
use Rattle.path_envelope.specs.declared.point.Traced.{Traced}
use Rattle.path_envelope.specs.declared.point.Traced.TheVariants.{Made, Clashing}
use Rattle.path_envelope.specs.Duties.{IsFixed, Contradict, Agree, apart}
use Rattle.path_envelope.specs.FirstClash.{IsFirstClash}

-- the timetable with these paths, hoist h at tick t at h * period + t
abbrev pub on_paths : Timetable → List ℕ → Timetable
on_paths p rows = record p { path = λ h t. get_or rows (h * p.period + t) 0 }

-- point x, of hoist h or a lower one, keeps hoist h at this height at tick t at least
abbrev pub Forces : LineData → Timetable → ℕ → ℕ → ℕ → Point → Type 0
Forces l p h t height x =
    IsFixed l p x × (x.hoist ≤ h)
    × (height ≡ x.at + (h - x.hoist) * l.gap - apart x (record { hoist = h; tick = pos t; at = 0 }))

-- the height is the greatest of what the lower hoists need and of all that fixed points force
pub record IsLowestAt (l : LineData) (p : Timetable) (h t height : ℕ) : Type 0 where
  pub room : h * l.gap ≤ height
  pub forced : (x : Point) (least : ℕ) → Forces l p h t least x → least ≤ height
  pub some : (height ≡ h * l.gap) ⊎ ((x : Point) × Forces l p h t height x)

-- paths for all hoists, that keep to the track, go through every fixed point and are the lowest
pub record AreLowest (l : LineData) (p : Timetable) (rows : List ℕ) : Type 0 where
  pub count : length rows ≡ l.hoists * p.period
  pub small : (i : ℕ) → get_or rows i 0 ≤ l.track
  pub track : IsTrack l (on_paths p rows)
  pub through : (c k u : ℕ) → IsMove l c k → u ≤ duration (motion l p c k)
      → position (on_paths p rows) (p.hoist c k) (p.start c k + u) ≡ place (motion l p c k) u
  pub lowest : (h t : ℕ) → h < l.hoists → t < p.period → IsLowestAt l p h t (get_or rows (h * p.period + t) 0)

-- the lowest paths, where no two fixed points contradict one another; else the first two that do
abbrev pub IsTraced : LineData → Timetable → Traced → Type 0
IsTraced l p (Made rows) = Agree l p × AreLowest l p rows.items
IsTraced l p (Clashing a b) = IsFixed l p a × IsFixed l p b × Contradict l a b × IsFirstClash l p a b
