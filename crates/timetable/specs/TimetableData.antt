-- A timetable as data: what contracts see of a `Timetable`, and when it is one of a line.
use Rattle.std.specs.Prelude.{◌≡◌, ℕ, ◌+◌, ◌*◌, ◌<◌, ◌≤◌, List, length, get_or}
use Rattle.hoist_base.specs.LineData.{LineData, last_stage, move_count}
use Rattle.hoist_base.specs.Routes.{IsRoute}
use Rattle.line_model.specs.Timetable.{Timetable}

-- steps is the number of moves of a carrier. Lists by carrier, by move, by visit and by hoist and tick:
-- move (c, k) stands at c * steps + k, visit (c, k) at c * (steps + 1) + k, hoist h at tick t at h * period + t.
pub record TimetableData : Type 0 where
  pub period : ℕ
  pub steps : ℕ
  pub put : List ℕ
  pub off : List ℕ
  pub start : List ℕ
  pub hoist : List ℕ
  pub path : List ℕ
  pub tank : List ℕ

-- the timetable that the lists write out
abbrev pub timetable_of : TimetableData → Timetable
timetable_of d = record {
  period = d.period;
  put = λ c. get_or d.put c 0;
  off = λ c. get_or d.off c 0;
  start = λ c k. get_or d.start (c * d.steps + k) 0;
  hoist = λ c k. get_or d.hoist (c * d.steps + k) 0;
  tank = λ c k. get_or d.tank (c * (d.steps + 1) + k) 0;
  path = λ h t. get_or d.path (h * d.period + t) 0;
}

-- the greatest tick of a put, an off or a start
abbrev pub last_tick : ℕ
last_tick = 1000000000

-- what every timetable keeps, whatever its line: list lengths that agree, and the bounds of its numbers
pub record IsTimetable (d : TimetableData) : Type 0 where
  pub period : (1 ≤ d.period) × (d.period ≤ 20000)
  pub steps : (1 ≤ d.steps) × (d.steps ≤ 31)
  pub carriers : (1 ≤ length d.put) × (length d.put ≤ 4)
  pub off_count : length d.off ≡ length d.put
  pub start_count : length d.start ≡ length d.put * d.steps
  pub hoist_count : length d.hoist ≡ length d.put * d.steps
  pub tank_count : length d.tank ≡ length d.put * (d.steps + 1)
  pub path_count : length d.path ≤ 6 * d.period
  pub put_ticks : (i : ℕ) → get_or d.put i 0 ≤ last_tick
  pub off_ticks : (i : ℕ) → get_or d.off i 0 ≤ last_tick
  pub start_ticks : (i : ℕ) → get_or d.start i 0 ≤ last_tick
  -- each hoist that moves a carrier has its positions
  pub rows : (i : ℕ) → i < length d.hoist → (get_or d.hoist i 0 + 1) * d.period ≤ length d.path

-- the lists have the lengths of the line, and each tank is one of its stage
pub record FitsLine (l : LineData) (d : TimetableData) : Type 0 where
  pub steps : d.steps ≡ last_stage l
  pub put_count : length d.put ≡ l.degree
  pub off_count : length d.off ≡ l.degree
  pub start_count : length d.start ≡ move_count l
  pub hoist_count : length d.hoist ≡ move_count l
  pub path_count : length d.path ≡ l.hoists * d.period
  pub route : IsRoute l d.tank

-- a timetable of the line: it fits, and its numbers keep their bounds
pub record IsTimetableOf (l : LineData) (d : TimetableData) : Type 0 where
  pub fits : FitsLine l d
  pub period : (1 ≤ d.period) × (d.period ≤ 20000)
  pub put_ticks : (i : ℕ) → get_or d.put i 0 ≤ last_tick
  pub off_ticks : (i : ℕ) → get_or d.off i 0 ≤ last_tick
  pub start_ticks : (i : ℕ) → get_or d.start i 0 ≤ last_tick
  pub hoists : (i : ℕ) → i < length d.hoist → get_or d.hoist i 0 < l.hoists
