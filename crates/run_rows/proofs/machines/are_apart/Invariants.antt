use Rattle.std.proofs.Common.{ℕ, ◌+◌, ◌<◌, ◌≤◌, get_or}
use Rattle.run_rows.proofs.machines.are_apart.Given as goal

abbrev pub invariant-loop-h : goal.invariant-loop-h
invariant-loop-h l = record {
  within : (j : ℕ) → j < l.h → get_or l.at j 0 ≤ l.line.track;
  gap : (j : ℕ) → j < l.h → j + 1 < l.line.hoists → get_or l.at j 0 + l.line.gap ≤ get_or l.at (j + 1) 0;
}
