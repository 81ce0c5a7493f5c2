use Rattle.std.proofs.Common.{ℕ, ℤ, length}
use Rattle.timetable.specs.TimetableData.{timetable_of}
use Rattle.timetable.specs.Numbers.{NoneUnder}
use Rattle.timetable.specs.Faults.{HoldTwo}
use Rattle.timetable.proofs.holding.first_hold.Given as goal

abbrev pub invariant-loop-number : goal.invariant-loop-number
invariant-loop-number l =
    NoneUnder (length l.line.stages) l.number
    (λ c k. (c' : ℕ) × (k' : ℕ) × (s : ℤ) × HoldTwo l.line (timetable_of l.t) c k c' k' s)
