use Rattle.std.proofs.Common.{ℕ, ◌<◌}
use Rattle.timetable.specs.TimetableData.{timetable_of}
use Rattle.timetable.specs.Faults.{IsAstray}
use Rattle.timetable.proofs.carrying.first_astray.Given as goal

abbrev pub invariant-loop-u : goal.invariant-loop-u
invariant-loop-u l =
    (v : ℕ) → v < l.u → IsAstray l.line (timetable_of l.t) l.fn.m.carrier l.fn.m.step v → ⊥
