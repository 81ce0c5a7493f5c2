use Rattle.std.proofs.Common.{ℕ, arith, refl, rules, ℤ, w64}
use Rattle.std.proofs.lemmas.Int.{to_z-of_z}
use mir.Val.{SFits}
use Rattle.hoist_base.specs.LineData.{last_stage, move_count}
use Rattle.timetable.specs.TimetableData.{timetable_of}
use Rattle.timetable.specs.Faults.{CarriesTwo}
use Rattle.timetable.proofs.Pairs.{none_under_more, none_under_less}
use Rattle.timetable.proofs.CarryFaults.{carry_first, carry_none}
use Rattle.timetable.proofs.carrying.first_carry.Goals as goal

pub returns-in-Some : goal.returns-in-Some
returns-in-Some c =
    let l = c.args.line.now in
    let p = timetable_of c.args.t.now in
    let fits : SFits w64 c.in-Some.shift = search rules in
    let partner = rw c.move_at-a.ensures.value at c.in-Some.ensures.first in
    rw (c.move_at-a.ensures.value, c.move_at-b.ensures.value, to_z-of_z w64 c.in-Some.shift fits)
    (carry_first l p (last_stage l) c.loop-number.number c.in-Some.partner c.in-Some.shift refl c.loop-number.invariant partner)

pub loop-number-preserved : goal.loop-number-preserved
loop-number-preserved c =
    let l = c.args.line.now in
    let p = timetable_of c.args.t.now in
    let none = rw c.move_at-a.ensures.value at c.in_default.ensures.first in
    none_under_more (last_stage l) c.loop-number.number (λ x k. (x' : ℕ) × (k' : ℕ) × (s : ℤ) × CarriesTwo l p x k x' k' s) c.loop-number.invariant
    (λ has.
    let (two, (h, t, z, z', x, y, is)) = has.3 in
    none has.0 has.1 has.2 (omega (arith, y.move.1)) has.3)

pub returns : goal.returns
returns c =
    let l = c.args.line.now in
    let p = timetable_of c.args.t.now in
    let le = rw c.move_count-number-end.ensures.value at c.loop-number-test.false in
    carry_none l p (last_stage l) refl
    (none_under_less (last_stage l) c.loop-number.number (move_count l)
    (λ x k. (x' : ℕ) × (k' : ℕ) × (s : ℤ) × CarriesTwo l p x k x' k' s) c.loop-number.invariant le)
