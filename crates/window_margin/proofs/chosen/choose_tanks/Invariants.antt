use Rattle.timetable.specs.TimetableData.{timetable_of}
use Rattle.window_margin.specs.Chosen.{ChoosesBelow}
use Rattle.window_margin.proofs.chosen.choose_tanks.Given as goal

abbrev pub invariant-loop-number : goal.invariant-loop-number
invariant-loop-number l = ChoosesBelow l.line (timetable_of l.t) l.path.items l.number
