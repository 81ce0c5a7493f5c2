use Rattle.timetable.specs.TimetableData.{timetable_of}
use Rattle.startup_rundown.proofs.RunPlan.{run_is}
use Rattle.startup_rundown.proofs.RunLaw.{runs_through, plays_done}
use Rattle.startup_rundown.proofs.LastOff.{is_ready}
use Rattle.startup_rundown.proofs.driving.drive.Goals as goal

pub returns-clause-run : goal.returns-clause-run
returns-clause-run c =
    let l = c.args.line.now in
    let p = timetable_of c.args.t.now in
    let n = c.args.carriers in
    runs_through l p n (run_is l p n c.new.ensures.kept.line c.requires.legal) c.requires.carriers.0

pub returns-clause-done : goal.returns-clause-done
returns-clause-done c =
    let l = c.args.line.now in
    let p = timetable_of c.args.t.now in
    let n = c.args.carriers in
    plays_done l p n (runs_through l p n (run_is l p n c.new.ensures.kept.line c.requires.legal) c.requires.carriers.0)

pub returns-clause-ready : goal.returns-clause-ready
returns-clause-ready c =
    let l = c.args.line.now in
    let p = timetable_of c.args.t.now in
    let n = c.args.carriers in
    is_ready l p n (run_is l p n c.new.ensures.kept.line c.requires.legal) c.requires.carriers.0 c.new.ensures.small
