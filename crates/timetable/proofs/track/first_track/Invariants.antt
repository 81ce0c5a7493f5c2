use Rattle.timetable.specs.TimetableData.{timetable_of}
use Rattle.timetable.specs.Numbers.{NoneUnder}
use Rattle.timetable.specs.Faults.{IsAbove}
use Rattle.timetable.proofs.track.first_track.Given as goal

abbrev pub invariant-loop-number : goal.invariant-loop-number
invariant-loop-number l = NoneUnder l.t.period l.number (IsAbove l.line (timetable_of l.t))
