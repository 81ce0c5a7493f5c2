use Rattle.std.proofs.Common.{◌≡◌, ◌++◌}
use Rattle.timetable.specs.TimetableData.{timetable_of}
use Rattle.answer_text.specs.Tables.{each_below, path_line}
use Rattle.answer_text.proofs.tables.push_paths.Given as goal

abbrev pub invariant-loop-h : goal.invariant-loop-h
invariant-loop-h l = l.text.items ≡ l.fn.text.items ++ each_below l.h (path_line (timetable_of l.t))
