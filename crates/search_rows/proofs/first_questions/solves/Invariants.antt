use Rattle.std.proofs.Common.{ℕ, ◌<◌}
use Rattle.std.specs.Prelude.{◌+ℤ◌, ◌≤ℤ◌}
use Rattle.longest_path.specs.System.{arc, weight}
use Rattle.path_constraints.specs.Ticks.{tick_at}
use Rattle.search_rows.proofs.first_questions.solves.Given as goal

-- those so far are kept
abbrev pub invariant-loop-arc : goal.invariant-loop-arc
invariant-loop-arc l = (k : ℕ) → k < l.arc-index → (tick_at l.ticks (arc l.s k).from +ℤ weight (arc l.s k) l.period) ≤ℤ tick_at l.ticks (arc l.s k).to
