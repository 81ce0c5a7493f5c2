use Rattle.std.proofs.Common.{◌≤◌}
use Rattle.timetable.specs.TimetableData.{timetable_of}
use Rattle.startup_rundown.proofs.LastOff.{Latest}
use Rattle.startup_rundown.proofs.runner.last_off.Given as goal

abbrev pub invariant-loop-c : goal.invariant-loop-c
invariant-loop-c l = Latest l.line (timetable_of l.t) l.carriers l.c l.last × (l.last ≤ 2000000000)
