-- The chart of a timetable: a row for each tick of the period, with a cell for each position of the track.
use Rattle.std.specs.Prelude.{◌≡◌, ℕ, zero, suc, ◌+◌, ◌*◌, ◌%◌, ◌<◌, ◌==◌, ◌&&◌, ◌↔◌, IsTrue, Bool, cond, Option, Some, None, List, ◌++◌, codes, decimal, length, get_or, false, map, flat_map}
use Rattle.std.specs.List.{range_with_len, list_any}
use Rattle.hoist_base.specs.declared.tank.Tank.{Tank}
use Rattle.hoist_base.specs.LineData.{LineData, move_at, move_count}
use Rattle.hoist_base.specs.Valid.{IsLine}
use Rattle.line_model.specs.Motion.{duration}
use Rattle.line_model.specs.Timetable.{Timetable, position, later, motion}
use Rattle.line_model.specs.Legal.{CarriesAt}
use Rattle.gantt_report.specs.Places.{right_in}

-- hoist h carries at tick t of the period: it does at that tick or whole periods later, by some move of some period
abbrev pub Carries : LineData → Timetable → ℕ → ℕ → Type 0
Carries l p h t = (c : ℕ) × (k : ℕ) × (z : ℕ) × (turn : ℕ) × CarriesAt l p h c k z (later p turn t)

-- the same as a test: by some move of the hoist the tick comes, whole periods earlier or later, some ticks after the
-- start ..
abbrev pub carries_by : LineData → Timetable → ℕ → ℕ → ℕ → ℕ → Bool
carries_by l p h t c k =
    list_any (λ u. (p.hoist c k == h) && ((p.start c k + u) % p.period == t)) (range_with_len 0 (duration (motion l p c k)))

-- .. and before the end
abbrev pub carries : LineData → Timetable → ℕ → ℕ → Bool
carries l p h t =
    list_any (λ i. carries_by l p h t (move_at l i).carrier (move_at l i).step) (range_with_len 0 (move_count l))

-- at each tick of the period and for each hoist the test is true exactly where it carries
abbrev pub TellsCarries : LineData → Timetable → Type 0
TellsCarries l p = (h t : ℕ) → t < p.period → IsTrue (carries l p h t) ↔ Carries l p h t

abbrev pub CarriesIsTold : Type 0
CarriesIsTold = (l : LineData) (p : Timetable) → IsLine l → TellsCarries l p

-- the hoist of the first n that is at a position, where each hoist is at a position of its own
abbrev pub hoist_at : ℕ → (ℕ → ℕ) → ℕ → Option ℕ
hoist_at zero at x = None
hoist_at (suc n) at x = cond (at n == x) (Some n) (hoist_at n at x)

-- a letter for a hoist that carries, a digit for another one
abbrev pub hoist_cell : ℕ → Bool → ℕ
hoist_cell h carrying = cond carrying (65 + h) (48 + h)

-- a point for a tank, a blank where there is none
abbrev pub ground_cell : LineData → ℕ → ℕ
ground_cell l x = cond (list_any (λ (i : Tank). i.at == x) l.tanks) 46 32

-- a hoist goes before a tank
abbrev pub drawn : LineData → Timetable → ℕ → ℕ → Option ℕ → ℕ
drawn l p t x None = ground_cell l x
drawn l p t x (Some h) = hoist_cell h (carries l p h t)

-- the cell of position x at tick t
abbrev pub cell : LineData → Timetable → ℕ → ℕ → ℕ
cell l p t x = drawn l p t x (hoist_at l.hoists (λ h. position p h t) x)

abbrev pub row_text : LineData → Timetable → ℕ → List ℕ
row_text l p t = right_in 5 (decimal t) ++ (codes " |" ++ (map (cell l p t) (range_with_len 0 (l.track + 1)) ++ codes "|\n"))

abbrev pub chart_text : LineData → Timetable → List ℕ
chart_text l p = codes "period " ++ (decimal p.period ++ (codes "\n" ++ flat_map (row_text l p) (range_with_len 0 p.period)))

-- marks of the ticks at which hoists carry: that of hoist h at tick t stands at h * period + t
pub record AreMarks (l : LineData) (p : Timetable) (marks : List Bool) : Type 0 where
  pub count : length marks ≡ l.hoists * p.period
  pub each : (h t : ℕ) → h < l.hoists → t < p.period → get_or marks (h * p.period + t) false ≡ carries l p h t

-- where the mark of a move's hoist stands u ticks after its start
abbrev pub mark_place : Timetable → ℕ → ℕ → ℕ → ℕ
mark_place p c k u = p.hoist c k * p.period + (p.start c k + u) % p.period

-- the mark at place j is that of a tick of the move
abbrev pub is_marked_by : LineData → Timetable → ℕ → ℕ → ℕ → Bool
is_marked_by l p j c k = list_any (λ u. mark_place p c k u == j) (range_with_len 0 (duration (motion l p c k)))
