use Rattle.std.proofs.Common.{◌≡◌, ◌++◌}
use Rattle.timetable.specs.TimetableData.{timetable_of}
use Rattle.answer_text.specs.Tables.{each_below, move_line}
use Rattle.answer_text.proofs.tables.push_moves.Given as goal

abbrev pub invariant-loop-c : goal.invariant-loop-c
invariant-loop-c l = l.text.items ≡ l.fn.text.items ++ each_below l.c (λ c. each_below l.steps (move_line (timetable_of l.t) c))
