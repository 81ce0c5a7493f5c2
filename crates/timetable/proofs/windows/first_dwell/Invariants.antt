use Rattle.std.proofs.Common.{length}
use Rattle.timetable.specs.TimetableData.{timetable_of}
use Rattle.timetable.specs.Numbers.{NoneUnder}
use Rattle.timetable.specs.Faults.{IsOutside}
use Rattle.timetable.proofs.windows.first_dwell.Given as goal

abbrev pub invariant-loop-number : goal.invariant-loop-number
invariant-loop-number l = NoneUnder (length l.line.stages) l.number (IsOutside l.line (timetable_of l.t))
