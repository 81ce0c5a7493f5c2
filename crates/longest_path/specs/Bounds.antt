-- The periods and caps that systems are looked at with.
use Rattle.std.specs.Prelude.{ℕ, ◌≤◌}

-- one tick more than the greatest period of a timetable is the greatest that a bound or a cap may be
abbrev pub IsWithinCap : ℕ → Type 0
IsWithinCap period = period ≤ 20001

abbrev pub IsPeriod : ℕ → Type 0
IsPeriod period = (1 ≤ period) × IsWithinCap period

-- a search below a cap looks at least at period 1
abbrev pub IsCap : ℕ → Type 0
IsCap cap = (2 ≤ cap) × IsWithinCap cap
