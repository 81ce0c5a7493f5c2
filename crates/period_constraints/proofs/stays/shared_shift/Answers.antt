use Rattle.std.proofs.Common.{◌≡◌, arith, ℤ}
use Rattle.std.specs.Prelude.{◌-ℤ◌}
use Rattle.std.proofs.lemmas.Int.{ints}
use mir.Val.{to_z, of_z}
use mir.Syntax.{w32}
use Rattle.path_constraints.specs.Ticks.{tick_at}
use Rattle.period_constraints.proofs.StayLemmas.{tank_shift}
use Rattle.period_constraints.proofs.stays.shared_shift.Goals as goal

pub overflow_sub-a : goal.overflow_sub-a
overflow_sub-a c = omega (arith, ints, c.stay_at-a.ensures.near, c.stay_at-b.ensures.near)

pub overflow_sub-a-then-tanks-first : goal.overflow_sub-a-then-tanks-first
overflow_sub-a-then-tanks-first c = omega (arith, ints, c.stay_at-a.ensures.near, c.stay_at-b.ensures.near)

pub first_shift-requires-clause-near : goal.first_shift-requires-clause-near
first_shift-requires-clause-near c = omega (arith, ints, c.stay_at-a.ensures.near, c.stay_at-b.ensures.near)

pub returns-then-tanks-first-clause-first : goal.returns-then-tanks-first-clause-first
returns-then-tanks-first-clause-first c =
    let a = c.stay_at-a.result in
    let b = c.stay_at-b.result in
    let low : ℤ = to_z w32 (of_z w32 (to_z w32 (of_z w32 a.begin) -ℤ to_z w32 (of_z w32 b.end))) in
    let high : ℤ = to_z w32 (of_z w32 (to_z w32 (of_z w32 a.end) -ℤ to_z w32 (of_z w32 b.begin))) in
    let is_low : low ≡ a.begin -ℤ b.end = omega (arith, ints, c.stay_at-a.ensures.near, c.stay_at-b.ensures.near) in
    let is_high : high ≡ a.end -ℤ b.begin = omega (arith, ints, c.stay_at-a.ensures.near, c.stay_at-b.ensures.near) in
    tank_shift c.args.line.now c.args.tanks.now (tick_at c.args.ticks.now) a b c.args.period c.args.first c.args.second low high c.first_shift.result
    c.stay_at-a.ensures c.stay_at-b.ensures
    c.requires.there.0 c.requires.there.1 c.if-tanks-first.true is_low is_high c.first_shift.ensures.first
