use Rattle.std.proofs.Common.{ℤ}
use Rattle.hoist_base.specs.LineData.{last_stage}
use Rattle.timetable.specs.TimetableData.{timetable_of}
use Rattle.timetable.specs.Numbers.{NoneUnder}
use Rattle.timetable.specs.Faults.{CarriesTwo}
use Rattle.timetable.proofs.carrying.first_partner.Given as goal

abbrev pub invariant-loop-number : goal.invariant-loop-number
invariant-loop-number l =
    NoneUnder (last_stage l.line) l.number
    (λ c k. (s : ℤ) × CarriesTwo l.line (timetable_of l.t) l.a.carrier l.a.step c k s)
