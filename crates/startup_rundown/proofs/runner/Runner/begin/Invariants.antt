use Rattle.std.proofs.Common.{◌≡◌, ◌+◌, None}
use Rattle.hoist_base.specs.LineData.{last_stage}
use Rattle.timetable.specs.TimetableData.{timetable_of}
use Rattle.startup_rundown.specs.Picks.{pick_move}
use Rattle.startup_rundown.specs.Runner as runners
use Rattle.startup_rundown.proofs.runner.Runner.begin.Given as goal

abbrev pub invariant-loop-c : goal.invariant-loop-c
invariant-loop-c l = pick_move l.c (last_stage l.self.line) (runners.begins_at l.self l.tick l.h) (λ c k. (timetable_of l.self.timetable).tank c (k + 1)) ≡ None
