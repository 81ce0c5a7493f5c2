use Rattle.std.proofs.Common.{◌≡◌, ℕ, ◌<◌, length, get_or}
use Rattle.window_margin.proofs.margins.hoists_of.Given as goal

-- the hoists of the moves so far
abbrev pub invariant-loop-number : goal.invariant-loop-number
invariant-loop-number l = (length l.numbers.items ≡ l.number) × ((j : ℕ) → j < l.number → get_or l.numbers.items j 0 ≡ get_or l.t.hoist j 0)
