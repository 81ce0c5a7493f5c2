use Rattle.std.proofs.Common.{arith}
use Rattle.timetable.specs.TimetableData.{timetable_of}
use Rattle.window_margin.proofs.ChosenLemmas.{all_assigned}
use Rattle.window_margin.proofs.chosen.chosen_path.Goals as goal

pub returns-clause-chosen : goal.returns-clause-chosen
returns-clause-chosen c =
    all_assigned c.args.line.now (timetable_of c.args.t.now) c.loop-number.path.items c.loop-number.number c.move_count-number-end.ensures.valid
    c.requires.legal c.loop-number.invariant
    (omega (arith, c.loop-number-test.false, c.loop-number.auto.number-end, c.move_count-number-end.ensures.value))
