-- What a hoist does at each tick of the period: it carries, it drives without a load, or it stands.
use Rattle.std.specs.Prelude.{ℕ, ◌+◌, ◌-◌, ◌%◌, ◌==◌, ◌&&◌, nat_lt, not, Bool}
use Rattle.std.specs.List.{count_by, list_any, range_with_len}
use Rattle.hoist_base.specs.LineData.{LineData, move_at, move_count}
use Rattle.line_model.specs.Motion.{duration}
use Rattle.line_model.specs.Timetable.{Timetable, position, motion}

-- the ticks from the last start of a move, in this period or the one before, to a tick of the period
abbrev pub since : Timetable → ℕ → ℕ → ℕ → ℕ
since p c k t = (t + (p.period - p.start c k % p.period)) % p.period

-- hoist h carries at tick t by move (c, k): it lifts, travels or lowers
abbrev pub carries_by : LineData → Timetable → ℕ → ℕ → ℕ → ℕ → Bool
carries_by l p h t c k = (p.hoist c k == h) && nat_lt (since p c k t) (duration (motion l p c k))

-- it carries at tick t by the move with a number
abbrev pub carries_at : LineData → Timetable → ℕ → ℕ → ℕ → Bool
carries_at l p h t i = carries_by l p h t (move_at l i).carrier (move_at l i).step

-- it carries at tick t by some move
abbrev pub carries : LineData → Timetable → ℕ → ℕ → Bool
carries l p h t = list_any (carries_at l p h t) (range_with_len 0 (move_count l))

-- its position changes from tick t to the next
abbrev pub changes : Timetable → ℕ → ℕ → Bool
changes p h t = not (position p h t == position p h (t + 1))

-- it drives without a load
abbrev pub drives : LineData → Timetable → ℕ → ℕ → Bool
drives l p h t = not (carries l p h t) && changes p h t

-- it does neither
abbrev pub stands : LineData → Timetable → ℕ → ℕ → Bool
stands l p h t = not (carries l p h t) && not (changes p h t)

-- the ticks of a period at which a hoist carries, at which it drives without a load, and at which it stands
abbrev pub carrying : LineData → Timetable → ℕ → ℕ
carrying l p h = count_by (carries l p h) (range_with_len 0 p.period)

abbrev pub driving : LineData → Timetable → ℕ → ℕ
driving l p h = count_by (drives l p h) (range_with_len 0 p.period)

abbrev pub standing : LineData → Timetable → ℕ → ℕ
standing l p h = count_by (stands l p h) (range_with_len 0 p.period)
