use Rattle.std.proofs.Common.{ℕ, length, arith, refl, rules, ℤ, w64}
use Rattle.std.proofs.lemmas.Int.{to_z-of_z}
use mir.Val.{SFits}
use Rattle.hoist_base.specs.LineData.{visit_count}
use Rattle.timetable.specs.TimetableData.{timetable_of}
use Rattle.timetable.specs.Faults.{HoldTwo}
use Rattle.timetable.proofs.Pairs.{none_under_more, none_under_less}
use Rattle.timetable.proofs.HoldFaults.{hold_first, hold_none}
use Rattle.timetable.proofs.holding.first_hold.Goals as goal

pub returns-in-Some : goal.returns-in-Some
returns-in-Some c =
    let l = c.args.line.now in
    let p = timetable_of c.args.t.now in
    let fits : SFits w64 c.in-Some.shift = search rules in
    let partner = rw c.visit_at-a.ensures.value at c.in-Some.ensures.first in
    rw (c.visit_at-a.ensures.value, c.visit_at-b.ensures.value, to_z-of_z w64 c.in-Some.shift fits)
    (hold_first l p (length l.stages) c.loop-number.number c.in-Some.partner c.in-Some.shift refl c.loop-number.invariant partner)

pub loop-number-preserved : goal.loop-number-preserved
loop-number-preserved c =
    let l = c.args.line.now in
    let p = timetable_of c.args.t.now in
    let none = rw c.visit_at-a.ensures.value at c.in_default.ensures.first in
    none_under_more (length l.stages) c.loop-number.number (λ x k. (x' : ℕ) × (k' : ℕ) × (s : ℤ) × HoldTwo l p x k x' k' s) c.loop-number.invariant
    (λ has.
    let (two, (h, t, z, z', x, y, is)) = has.3 in
    none has.0 has.1 has.2 (omega (arith, y.visit.1)) has.3)

pub returns : goal.returns
returns c =
    let l = c.args.line.now in
    let p = timetable_of c.args.t.now in
    let le = rw c.visit_count-number-end.ensures.value at c.loop-number-test.false in
    hold_none l p (length l.stages) refl
    (none_under_less (length l.stages) c.loop-number.number (visit_count l)
    (λ x k. (x' : ℕ) × (k' : ℕ) × (s : ℤ) × HoldTwo l p x k x' k' s) c.loop-number.invariant le)
