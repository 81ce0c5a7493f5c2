use Rattle.std.proofs.Common.{ℕ, ◌<◌}
use Rattle.timetable.specs.TimetableData.{timetable_of}
use Rattle.timetable.specs.Faults.{IsLate}
use Rattle.timetable.proofs.windows.first_numbering.Given as goal

abbrev pub invariant-loop-carrier : goal.invariant-loop-carrier
invariant-loop-carrier l = (c : ℕ) → c < l.carrier → IsLate l.line (timetable_of l.t) c → ⊥
