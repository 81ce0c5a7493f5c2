use Rattle.std.proofs.Common.{ℕ, arith, rules, ℤ, w64}
use Rattle.std.proofs.lemmas.Int.{to_z-of_z}
use mir.Val.{SFits}
use Rattle.hoist_base.specs.LineData.{last_stage, move_count, move_number}
use Rattle.timetable.specs.TimetableData.{timetable_of}
use Rattle.timetable.specs.Faults.{CarriesTwo}
use Rattle.timetable.proofs.Pairs.{none_under_more, none_under_less}
use Rattle.timetable.proofs.CarryFaults.{partner_start, carry_partner_none}
use Rattle.timetable.proofs.carrying.first_partner.Goals as goal

pub loop-number-init : goal.loop-number-init
loop-number-init c =
    let l = c.args.line.now in
    let a = c.args.a in
    let P : ℕ → ℕ → ℤ → Type 0 = CarriesTwo l (timetable_of c.args.t.now) a.carrier a.step in
    rw c.move_number-number.ensures.value
    (partner_start (last_stage l) a.carrier a.step (move_number l a.carrier a.step) P (omega (arith, c.requires.there.1)) (λ x k s two. two.0.0) (omega arith))

pub returns-in-Some-clause-first : goal.returns-in-Some-clause-first
returns-in-Some-clause-first c =
    let fits : SFits w64 c.in-Some.shift = search rules in
    let least = rw c.move_at.ensures.value at c.in-Some.ensures in
    rw (to_z-of_z w64 c.in-Some.shift fits) (least.0, c.loop-number.invariant, least.1)

pub loop-number-preserved : goal.loop-number-preserved
loop-number-preserved c =
    let l = c.args.line.now in
    let a = c.args.a in
    let p = timetable_of c.args.t.now in
    let none = rw c.move_at.ensures.value at c.in_default.ensures in
    none_under_more (last_stage l) c.loop-number.number (λ x k. (s : ℤ) × CarriesTwo l p a.carrier a.step x k s) c.loop-number.invariant
    (λ has. none has.0 has.1)

pub returns-clause-first : goal.returns-clause-first
returns-clause-first c =
    let l = c.args.line.now in
    let a = c.args.a in
    let p = timetable_of c.args.t.now in
    let le = rw c.move_count-number-end.ensures.value at c.loop-number-test.false in
    carry_partner_none l p (last_stage l) a.carrier a.step
    (none_under_less (last_stage l) c.loop-number.number (move_count l) (λ x k. (s : ℤ) × CarriesTwo l p a.carrier a.step x k s) c.loop-number.invariant le)
