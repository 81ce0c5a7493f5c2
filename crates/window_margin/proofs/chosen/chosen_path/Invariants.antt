use Rattle.timetable.specs.TimetableData.{timetable_of}
use Rattle.window_margin.specs.Chosen.{AssignsBelow}
use Rattle.window_margin.proofs.chosen.chosen_path.Given as goal

abbrev pub invariant-loop-number : goal.invariant-loop-number
invariant-loop-number l = AssignsBelow l.line (timetable_of l.t) l.path.items l.number
