-- Ticks in memory, one for each move by its number.
use Rattle.std.specs.Prelude.{◌≡◌, ℕ, ◌≤◌, List, length, get_or, ℤ, pos, unsigned_abs}
use Rattle.hoist_base.specs.LineData.{LineData, move_count}

abbrev pub tick_at : List ℤ → ℕ → ℤ
tick_at ticks i = get_or ticks i (pos 0)

-- one for each move, of size at most 10^13
abbrev pub AreTicks : LineData → List ℤ → Type 0
AreTicks l ticks = (length ticks ≡ move_count l) × ((i : ℕ) → unsigned_abs (tick_at ticks i) ≤ 10000000000000)
