use Rattle.std.proofs.Common.{subst}
use Rattle.timetable.specs.TimetableData.{timetable_of}
use Rattle.tick_machine.specs.declared.run.Played.{Played}
use Rattle.startup_rundown.specs.Driving.{IsDoneRun}
use Rattle.startup_rundown.proofs.RunnerLaw.{driven_done}
use Rattle.hoist_cli.proofs.drilling.push_played.Goals as goal

pub unreachable-requires : goal.unreachable-requires
unreachable-requires c =
    subst (λ (played : Played). IsDoneRun c.args.line.now (timetable_of c.in-Some.timetable) 5 played) c.in-Refused.is
    (driven_done c.args.line.now c.in-Some.timetable 5 c.drive-runner.result c.in_ok-play.field-0 c.drive-runner.ensures.done c.drive-runner.ensures.runner
    c.in_ok-play.ensures.run)
