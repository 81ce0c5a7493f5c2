-- What the shapes of the diagram show of a timetable.
use Rattle.std.specs.Prelude.{◌≡◌, ℕ, ◌+◌, ◌*◌, ◌<◌, ◌≤◌, ◌⊎◌, false}
use Rattle.std.specs.Int.{abs_diff}
use Rattle.hoist_base.specs.LineData.{LineData, IsMove, IsVisit}
use Rattle.hoist_base.specs.Valid.{IsLine}
use Rattle.line_model.specs.declared.motion.Motion.{Motion}
use Rattle.line_model.specs.Motion.{duration, place}
use Rattle.line_model.specs.Timetable.{Timetable, position, motion}
use Rattle.line_model.specs.Legal.{IsLegal, hold_begin, hold_end}
use Rattle.timeway.specs.Shapes.{shown, is_corner, stay_length}

-- for n ticks from tick a on a value changes evenly: by d a tick upward, or by d a tick downward
abbrev pub IsEven : (ℕ → ℕ) → ℕ → ℕ → Type 0
IsEven at a n =
    (d : ℕ) × (((i : ℕ) → i ≤ n → at (a + i) ≡ at a + i * d) ⊎ ((i : ℕ) → i ≤ n → at (a + i) + i * d ≡ at a))

-- from a tick of a way to one before which no corner comes the position changes evenly, so the straight line between
-- goes through the positions at all ticks
abbrev pub WaysAreExact : Type 0
WaysAreExact =
    (p : Timetable) (h a n : ℕ) → ((i : ℕ) → 1 ≤ i → i < n → is_corner p h (a + i) ≡ false) → IsEven (position p h) a n

-- the corners of a ride: it stays where it starts while it lifts, then it goes evenly, and then it stays where it comes
-- to
pub record HasCorners (m : Motion) : Type 0 where
  pub lifts : (u : ℕ) → u ≤ m.lift → place m u ≡ m.from
  pub travels : IsEven (place m) m.lift (abs_diff m.from m.to)
  pub lowers : (u : ℕ) → m.lift + abs_diff m.from m.to ≤ u → place m u ≡ m.to

-- in a legal timetable the hoist of a ride is, in each period of the plot, where the motion has it
abbrev pub RidesAreExact : Type 0
RidesAreExact =
    (l : LineData) (p : Timetable) (c k turn u : ℕ) → IsLegal l p → IsMove l c k → u ≤ duration (motion l p c k)
    → (position p (p.hoist c k) (shown p (p.start c k) turn + u) ≡ place (motion l p c k) u) × HasCorners (motion l p c k)

-- in a legal timetable the ticks of a bar are those from when the visit begins to hold its tank until it ends to
abbrev pub BarsAreExact : Type 0
BarsAreExact =
    (l : LineData) (p : Timetable) (c k : ℕ) → IsLine l → IsLegal l p → IsVisit l c k → hold_begin l p c k + stay_length l p c k ≡ hold_end l p c k
