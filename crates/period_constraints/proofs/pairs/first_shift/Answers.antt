use Rattle.std.proofs.Common.{◌≡◌, arith, ap, subst, sym, ℤ, pos, Some}
use Rattle.std.specs.Prelude.{◌*ℤ◌, ◌<ℤ◌, true}
use Rattle.std.proofs.lemmas.Int.{ints}
use mir.Val.{to_z, of_z}
use mir.Syntax.{w32, w64}
use Rattle.period_constraints.specs.Pairs.{IsFirstShift, IsNextShift, IsBetween}
use Rattle.period_constraints.proofs.ShiftLemmas.{shift_first, shift_none}
use Rattle.period_constraints.proofs.pairs.first_shift.Goals as goal

pub returns-then-ends_below-clause-first : goal.returns-then-ends_below-clause-first
returns-then-ends_below-clause-first c =
    let t = c.args.period in
    let q = c.next_shift-shift.result in
    let e : to_z w32 (of_z w32 q) ≡ q = omega (arith, ints, c.next_shift-shift.ensures.small) in
    let f : to_z w32 (of_z w32 c.args.low) ≡ c.args.low = omega (arith, ints, c.ranges.low) in
    let g : to_z w32 (of_z w32 c.args.high) ≡ c.args.high = omega (arith, ints, c.ranges.high) in
    let answer : to_z w64 (of_z w64 c.from.result) ≡ q = omega (arith, ints, c.from.ensures, e, c.next_shift-shift.ensures.small) in
    let N : ℤ → Type 0 = λ z. IsNextShift z t q in
    let P : ℤ → Type 0 = λ z. IsFirstShift (λ r. IsBetween c.args.low c.args.high t r) (Some z) in
    let below = c.ends_below.ensures.0 c.if-ends_below.true in
    let under : (q *ℤ pos t) <ℤ c.args.high = omega (arith, ints, below, g, ap (λ (z : ℤ). z *ℤ pos t) e) in
    subst P (sym answer) (shift_first c.args.low c.args.high t q (subst N f c.next_shift-shift.ensures.next) under)

pub returns-else-ends_below-clause-first : goal.returns-else-ends_below-clause-first
returns-else-ends_below-clause-first c r between =
    let t = c.args.period in
    let q = c.next_shift-shift.result in
    let e : to_z w32 (of_z w32 q) ≡ q = omega (arith, ints, c.next_shift-shift.ensures.small) in
    let f : to_z w32 (of_z w32 c.args.low) ≡ c.args.low = omega (arith, ints, c.ranges.low) in
    let g : to_z w32 (of_z w32 c.args.high) ≡ c.args.high = omega (arith, ints, c.ranges.high) in
    let N : ℤ → Type 0 = λ z. IsNextShift z t q in
    let over : (q *ℤ pos t) <ℤ c.args.high → ⊥ = λ lt.
    let yes : c.ends_below.result ≡ true = c.ends_below.ensures.1 (omega (arith, ints, lt, g, ap (λ (z : ℤ). z *ℤ pos t) e)) in
    let no_more = c.if-ends_below.false in
    cc in
    shift_none c.args.low c.args.high t q r (subst N f c.next_shift-shift.ensures.next) over between
