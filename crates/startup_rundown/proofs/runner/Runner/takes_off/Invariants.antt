use Rattle.std.proofs.Common.{◌≡◌, None}
use Rattle.timetable.specs.TimetableData.{timetable_of}
use Rattle.startup_rundown.specs.Picks.{pick}
use Rattle.startup_rundown.specs.Runner as runners
use Rattle.startup_rundown.proofs.runner.Runner.takes_off.Given as goal

abbrev pub invariant-loop-c : goal.invariant-loop-c
invariant-loop-c l = pick l.c (λ c. runners.is_due l.self c ((timetable_of l.self.timetable).off c) l.tick) (λ c. c) ≡ None
