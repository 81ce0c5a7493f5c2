-- How long a move lasts, and where its hoist is.
use Rattle.std.proofs.Common.{◌≡◌, ℕ, ◌+◌, ◌≤◌, ◌<◌, arith}
use Rattle.tick_machine.specs.Layout.{Layout, IsLayout, move_ticks, move_place}

-- lifting and lowering are parts of the move
pub ticks_long : (l : Layout) (k from to : ℕ) → l.lift k + l.lower (k + 1) ≤ move_ticks l k from to
unfolding move_ticks
ticks_long l k from to = omega arith

pub ticks_small : (l : Layout) (k from to : ℕ) → IsLayout l → k < l.last → from < l.tanks → to < l.tanks
    → move_ticks l k from to ≤ 2000
unfolding move_ticks
ticks_small l k from to layout step a b =
    omega (arith, (layout.lift k step).1, (layout.lower k step).1, layout.on_track from a, layout.on_track to b, layout.track)

-- the hoist begins at the first tank
pub place_start : (l : Layout) (k from to : ℕ) → move_place l k from to 0 ≡ l.place from
unfolding move_place
place_start l k from to = omega arith

pub place_on_track : (l : Layout) (k from to u : ℕ) → IsLayout l → from < l.tanks → to < l.tanks
    → move_place l k from to u ≤ l.track
unfolding move_place
place_on_track l k from to u layout a b = omega (arith, layout.on_track from a, layout.on_track to b)
