use Rattle.std.proofs.Common.{◌≡◌, ℕ, ◌<◌, length, get_or, pos, ◌+ℤ◌}
use Rattle.path_constraints.specs.Ticks.{tick_at}
use Rattle.planning.proofs.planner.starts_of.Given as goal

abbrev pub invariant-loop-i : goal.invariant-loop-i
invariant-loop-i l =
    (length l.starts.items ≡ length l.ticks)
    × ((j : ℕ) → j < l.i → pos (get_or l.starts.items j 0) ≡ tick_at l.ticks j +ℤ pos l.load)
