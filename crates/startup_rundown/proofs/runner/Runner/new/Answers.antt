use Rattle.std.proofs.Common.{sym, ◌∙◌}
use Rattle.timetable.specs.TimetableData.{timetable_of}
use Rattle.startup_rundown.proofs.LastOff.{first_is}
use Rattle.startup_rundown.proofs.runner.Runner.new.Goals as goal

pub invariant_of-result : goal.invariant_of-result
invariant_of-result c =
    let l = c.args.line.now in
    let p = timetable_of c.args.timetable.now in
    let line = c.last_off-last.ensures.line in
    let some = line.limits.degree.0 in (
      record { line = line; timetable = c.last_off-last.ensures.timetable; fits = c.requires.fits; legal = c.requires.legal; carriers = c.requires.carriers },
      c.put-first.ensures.value ∙ sym (first_is l p some),
      c.last_off-last.ensures.value,
    )
