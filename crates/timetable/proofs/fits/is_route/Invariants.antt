use Rattle.std.proofs.Common.{ℕ, ◌%◌, ◌<◌, length, get_or}
use Rattle.hoist_base.specs.LineData.{Serves}
use Rattle.timetable.proofs.fits.is_route.Given as goal

abbrev pub invariant-loop-number : goal.invariant-loop-number
invariant-loop-number l =
    (i : ℕ) → i < l.number → Serves l.line (get_or l.tanks i 0) (i % length l.line.stages)
