-- A timetable, without bounds on its numbers: what the carriers of one period do, and where each hoist is.
-- Carriers, stages, steps and hoists go by number, from 0; ticks are numbers from 0 on.
use Rattle.std.specs.Prelude.{ℕ, ◌+◌, ◌*◌, ◌%◌}
use Rattle.line_model.specs.declared.motion.Motion.{Motion}
use Rattle.line_model.specs.Motion.{motion_by}
use Rattle.hoist_base.specs.LineData.{LineData}

pub record Timetable : Type 0 where
  pub period : ℕ
  -- by carrier: when it is put on, and taken off
  pub put : ℕ → ℕ
  pub off : ℕ → ℕ
  -- by carrier and step: when the move starts, and which hoist does it
  pub start : ℕ → ℕ → ℕ
  pub hoist : ℕ → ℕ → ℕ
  -- by carrier and stage: the tank that it uses
  pub tank : ℕ → ℕ → ℕ
  -- by hoist and tick of the period
  pub path : ℕ → ℕ → ℕ

-- where hoist h is at any tick
abbrev pub position : Timetable → ℕ → ℕ → ℕ
position p h t = p.path h (t % p.period)

-- tick t of a carrier's plan, z periods later
abbrev pub later : Timetable → ℕ → ℕ → ℕ
later p z t = t + z * p.period

-- the motion of step k of carrier c
abbrev pub motion : LineData → Timetable → ℕ → ℕ → Motion
motion l p c k = motion_by l (p.tank c) k
