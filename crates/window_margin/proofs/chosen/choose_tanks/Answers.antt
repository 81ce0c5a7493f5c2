use Rattle.std.proofs.Common.{arith}
use Rattle.timetable.specs.TimetableData.{timetable_of}
use Rattle.window_margin.proofs.ChosenLemmas.{all_chosen}
use Rattle.window_margin.proofs.chosen.choose_tanks.Goals as goal

pub returns : goal.returns
returns c =
    all_chosen c.args.line.now (timetable_of c.args.t.now) c.loop-number.path.items c.loop-number.number c.visit_count-number-end.ensures.valid
    c.requires.legal c.loop-number.invariant
    (omega (arith, c.loop-number-test.false, c.loop-number.auto.number-end, c.visit_count-number-end.ensures.value))
