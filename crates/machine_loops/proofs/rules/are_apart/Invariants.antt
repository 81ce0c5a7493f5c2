use Rattle.std.proofs.Common.{ℕ, ◌+◌, ◌<◌, ◌≤◌, length, get_or}
use Rattle.machine_loops.proofs.rules.are_apart.Given as goal

abbrev pub invariant-loop-h : goal.invariant-loop-h
invariant-loop-h l =
    (j : ℕ) → j < l.h
    → (get_or l.at j 0 ≤ l.line.track) × (j + 1 < length l.at → get_or l.at j 0 + l.line.gap ≤ get_or l.at (j + 1) 0)
