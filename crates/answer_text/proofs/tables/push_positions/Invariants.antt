use Rattle.std.proofs.Common.{◌≡◌, ◌++◌, codes, decimal}
use Rattle.timetable.specs.TimetableData.{timetable_of}
use Rattle.answer_text.specs.Tables.{each_below}
use Rattle.answer_text.proofs.tables.push_positions.Given as goal

abbrev pub invariant-loop-tick : goal.invariant-loop-tick
invariant-loop-tick l = l.text.items ≡ l.fn.text.items ++ each_below l.tick (λ tick. codes " " ++ decimal ((timetable_of l.t).path l.h tick))
