use Rattle.std.proofs.Common.{ℕ, length, arith, rules, ℤ, w64}
use Rattle.std.proofs.lemmas.Int.{to_z-of_z}
use mir.Val.{SFits}
use Rattle.hoist_base.specs.LineData.{visit_count, visit_number}
use Rattle.timetable.specs.TimetableData.{timetable_of}
use Rattle.timetable.specs.Faults.{HoldTwo}
use Rattle.timetable.proofs.Pairs.{none_under_more, none_under_less}
use Rattle.timetable.proofs.CarryFaults.{partner_start}
use Rattle.timetable.proofs.HoldFaults.{hold_partner_none}
use Rattle.timetable.proofs.holding.first_partner.Goals as goal

pub loop-number-init : goal.loop-number-init
loop-number-init c =
    let l = c.args.line.now in
    let a = c.args.a in
    let P : ℕ → ℕ → ℤ → Type 0 = HoldTwo l (timetable_of c.args.t.now) a.carrier a.stage in
    rw c.visit_number-number.ensures.value
    (partner_start (length l.stages) a.carrier a.stage (visit_number l a.carrier a.stage) P
    (omega (arith, c.requires.there.1)) (λ x k s two. two.0.0) (omega arith))

pub returns-in-Some-clause-first : goal.returns-in-Some-clause-first
returns-in-Some-clause-first c =
    let fits : SFits w64 c.in-Some.shift = search rules in
    let least = rw c.visit_at.ensures.value at c.in-Some.ensures in
    rw (to_z-of_z w64 c.in-Some.shift fits) (least.0, c.loop-number.invariant, least.1)

pub loop-number-preserved : goal.loop-number-preserved
loop-number-preserved c =
    let l = c.args.line.now in
    let a = c.args.a in
    let p = timetable_of c.args.t.now in
    let none = rw c.visit_at.ensures.value at c.in_default.ensures in
    none_under_more (length l.stages) c.loop-number.number (λ x k. (s : ℤ) × HoldTwo l p a.carrier a.stage x k s) c.loop-number.invariant
    (λ has. none has.0 has.1)

pub returns-clause-first : goal.returns-clause-first
returns-clause-first c =
    let l = c.args.line.now in
    let a = c.args.a in
    let p = timetable_of c.args.t.now in
    let le = rw c.visit_count-number-end.ensures.value at c.loop-number-test.false in
    hold_partner_none l p (length l.stages) a.carrier a.stage
    (none_under_less (length l.stages) c.loop-number.number (visit_count l) (λ x k. (s : ℤ) × HoldTwo l p a.carrier a.stage x k s) c.loop-number.invariant le)
