use Rattle.std.proofs.Common.{ℤ, length}
use Rattle.timetable.specs.TimetableData.{timetable_of}
use Rattle.timetable.specs.Numbers.{NoneUnder}
use Rattle.timetable.specs.Faults.{HoldTwo}
use Rattle.timetable.proofs.holding.first_partner.Given as goal

abbrev pub invariant-loop-number : goal.invariant-loop-number
invariant-loop-number l =
    NoneUnder (length l.line.stages) l.number
    (λ c k. (s : ℤ) × HoldTwo l.line (timetable_of l.t) l.a.carrier l.a.stage c k s)
