-- The rules on the parts of a timetable, one by one.
use Rattle.std.specs.Prelude.{◌≡◌, ℕ, ◌*◌, ◌<◌, ◌≤◌, List, length, get_or}
use Rattle.hoist_base.specs.LineData.{LineData, move_count}
use Rattle.timetable.specs.TimetableData.{TimetableData, last_tick}

-- the period, and the lengths of the lists but that of the tanks
pub record HasCounts (l : LineData) (d : TimetableData) : Type 0 where
  pub period : (1 ≤ d.period) × (d.period ≤ 20000)
  pub put : length d.put ≡ l.degree
  pub off : length d.off ≡ l.degree
  pub start : length d.start ≡ move_count l
  pub hoist : length d.hoist ≡ move_count l
  pub path : length d.path ≡ l.hoists * d.period

-- ticks, none after the last
abbrev pub AreTicks : List ℕ → Type 0
AreTicks ticks = (i : ℕ) → get_or ticks i 0 ≤ last_tick

-- numbers below a limit
abbrev pub AreBelow : List ℕ → ℕ → Type 0
AreBelow numbers limit = (i : ℕ) → i < length numbers → get_or numbers i 0 < limit
