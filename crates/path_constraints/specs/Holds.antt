-- When a visit begins and ends to hold its tank, as the tick of a move and a number of ticks.
use Rattle.std.specs.Prelude.{ℕ, ◌+◌, ◌-◌, ◌==◌, if◌then◌else◌, ℤ, pos, ◌+ℤ◌, ◌-ℤ◌, ◌*ℤ◌, neg_ℤ}
use Rattle.hoist_base.specs.LineData.{LineData, stage, last_stage, last_step, move_number}
pub use Rattle.path_constraints.specs.declared.holds.Moment.{Moment}

-- a hold begins with the least time at the load station, or with the lowering; d has the durations, by carrier and step
abbrev pub begin_of : LineData → (ℕ → ℕ → ℕ) → ℕ → ℕ → Moment
begin_of l d c k =
    if k == 0
    then record { carrier = c; step = 0; fixed = neg_ℤ (pos l.load) }
    else record { carrier = c; step = k - 1; fixed = pos (d c (k - 1)) -ℤ pos (stage l k).lower }

-- and it ends with the lifting, or with the least time at the unload station
abbrev pub end_of : LineData → (ℕ → ℕ → ℕ) → ℕ → ℕ → Moment
end_of l d c k =
    if k == last_stage l
    then record { carrier = c; step = last_step l; fixed = pos (d c (last_step l) + l.unload) }
    else record { carrier = c; step = k; fixed = pos (stage l k).lift }

-- the node of a moment, and its tick where the ticks of the nodes are known
abbrev pub node_of : LineData → Moment → ℕ
node_of l m = move_number l m.carrier m.step

abbrev pub tick_of : LineData → (ℕ → ℤ) → Moment → ℤ
tick_of l ticks m = ticks (node_of l m) +ℤ m.fixed

-- a tick, q periods later
abbrev pub periods_later : ℤ → ℤ → ℕ → ℤ
periods_later tick q period = tick +ℤ q *ℤ pos period
