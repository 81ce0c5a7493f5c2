use Rattle.std.proofs.Common.{◌≡◌, ◌+◌, None}
use Rattle.timetable.specs.TimetableData.{timetable_of}
use Rattle.startup_rundown.specs.Picks.{pick}
use Rattle.startup_rundown.specs.Runner as runners
use Rattle.startup_rundown.proofs.runner.Runner.begin_with.Given as goal

abbrev pub invariant-loop-step : goal.invariant-loop-step
invariant-loop-step l = pick l.step (runners.begins_at l.self l.tick l.h l.c) (λ k. (timetable_of l.self.timetable).tank l.c (k + 1)) ≡ None
