use Rattle.std.proofs.Common.{ℕ, ◌<◌, ◌≤◌}
use Rattle.std.specs.Prelude.{unsigned_abs}
use Rattle.path_constraints.specs.Ticks.{tick_at}
use Rattle.search_rows.proofs.first_questions.are_ticks.Given as goal

-- those so far are small
abbrev pub invariant-loop-tick : goal.invariant-loop-tick
invariant-loop-tick l = (i : ℕ) → i < l.tick-index → unsigned_abs (tick_at l.ticks i) ≤ 10000000000000
