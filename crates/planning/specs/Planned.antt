-- The timetable of a solved path.
use Rattle.std.specs.Prelude.{◌≡◌, ℕ, ◌+◌, ◌<◌, pos, ◌+ℤ◌}
use Rattle.hoist_base.specs.LineData.{LineData, last_step, move_number, IsMove}
use Rattle.line_model.specs.Motion.{duration}
use Rattle.line_model.specs.Timetable.{motion}
use Rattle.timetable.specs.TimetableData.{TimetableData, timetable_of}
use Rattle.path_constraints.specs.Ticks.{tick_at}
use Rattle.node_expand.specs.declared.solved.Solved.{Solved}
use Rattle.path_envelope.specs.Duties.{duties}
use Rattle.path_envelope.specs.Envelope.{AreLowest}

-- Period, tanks and hoists are those of the solved path. Every move starts the load time after its tick, so that the
-- first carrier is put on at tick 0. A carrier is put on the load time before its first move starts, and taken off the
-- unload time after its last move has ended. The hoists are as low as their moves let them be.
pub record IsPlan (l : LineData) (s : Solved) (d : TimetableData) : Type 0 where
  pub period : d.period ≡ s.period
  pub tanks : d.tank ≡ s.tanks
  pub hoists : d.hoist ≡ s.hoists
  pub start : (c k : ℕ) → IsMove l c k
      → pos ((timetable_of d).start c k) ≡ tick_at s.ticks (move_number l c k) +ℤ pos l.load
  pub put : (c : ℕ) → c < l.degree → (timetable_of d).put c + l.load ≡ (timetable_of d).start c 0
  pub off : (c : ℕ) → c < l.degree
      → (timetable_of d).off c
      ≡ (timetable_of d).start c (last_step l) + duration (motion l (timetable_of d) c (last_step l)) + l.unload
  pub paths : AreLowest l (duties l s.tanks s.period d.start s.hoists) d.path
