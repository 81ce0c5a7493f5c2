use Rattle.std.proofs.Common.{◌≡◌, ◌++◌}
use Rattle.timetable.specs.TimetableData.{timetable_of}
use Rattle.answer_text.specs.Tables.{each_below, move_line}
use Rattle.answer_text.proofs.tables.push_moves_of.Given as goal

abbrev pub invariant-loop-k : goal.invariant-loop-k
invariant-loop-k l = l.text.items ≡ l.fn.text.items ++ each_below l.k (move_line (timetable_of l.t) l.c)
