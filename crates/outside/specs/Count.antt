-- Counters, which only go up and stand still at their last value, 2^64 - 1.
use Rattle.std.specs.Prelude.{ℕ, ◌+◌, ◌-◌, ◌^◌, ◌≤◌, min}

-- what a counter shows after one more event
abbrev pub next_count : ℕ → ℕ
next_count count = min (count + 1) (2 ^ 64 - 1)

-- a count rose: it is greater than before, or it stands at the last value of a counter
abbrev pub Rose : ℕ → ℕ → Type 0
Rose before now = next_count before ≤ now
