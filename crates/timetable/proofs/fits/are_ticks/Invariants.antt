use Rattle.std.proofs.Common.{ℕ, ◌<◌, ◌≤◌, get_or}
use Rattle.timetable.specs.TimetableData.{last_tick}
use Rattle.timetable.proofs.fits.are_ticks.Given as goal

abbrev pub invariant-loop-tick : goal.invariant-loop-tick
invariant-loop-tick l = (i : ℕ) → i < l.tick-index → get_or l.ticks i 0 ≤ last_tick
