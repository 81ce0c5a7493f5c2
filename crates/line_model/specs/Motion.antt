-- What a hoist does in one move, and which positions it reaches. The problem in outline is that of Phillips and Unger
-- (1976); several hoists and tanks to choose are this project's own.
use Rattle.std.specs.Prelude.{ℕ, ◌+◌, ◌-◌, ◌*◌, ◌≤◌, min, max}
use Rattle.std.specs.Int.{abs_diff}
use Rattle.line_model.specs.declared.motion.Motion.{Motion}
use Rattle.hoist_base.specs.LineData.{LineData, stage, position_of}

-- where one is after s units of travel from a towards b
abbrev pub towards : ℕ → ℕ → ℕ → ℕ
towards a b s = max (a - s) (min (a + s) b)

-- how many ticks a motion lasts
abbrev pub duration : Motion → ℕ
duration m = m.lift + abs_diff m.from m.to + m.lower

-- the hoist's position u ticks after the start: it lifts, then travels
abbrev pub place : Motion → ℕ → ℕ
place m u = towards m.from m.to (u - m.lift)

-- the motions that the calls take
pub record IsMotion (m : Motion) : Type 0 where
  pub from : m.from ≤ 1000
  pub to : m.to ≤ 1000
  pub lift : (1 ≤ m.lift) × (m.lift ≤ 500)
  pub lower : (1 ≤ m.lower) × (m.lower ≤ 500)

-- the move of step k between two tanks
abbrev pub motion_between : LineData → ℕ → ℕ → ℕ → Motion
motion_between l k from to = record {
  from = position_of l from;
  to = position_of l to;
  lift = (stage l k).lift;
  lower = (stage l (k + 1)).lower;
}

-- the move of step k of a carrier that uses these tanks, by stage
abbrev pub motion_by : LineData → (ℕ → ℕ) → ℕ → Motion
motion_by l tanks k = motion_between l k (tanks k) (tanks (k + 1))

-- hoist h reaches position p: the hoists below and above it have room on the track
abbrev pub Reaches : LineData → ℕ → ℕ → Type 0
Reaches l h p = (h * l.gap ≤ p) × (p + (l.hoists - 1 - h) * l.gap ≤ l.track)

-- it reaches both ends of a motion
abbrev pub ReachesMotion : LineData → ℕ → Motion → Type 0
ReachesMotion l h m = Reaches l h m.from × Reaches l h m.to
