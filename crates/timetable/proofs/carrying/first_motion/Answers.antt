use Rattle.std.proofs.Common.{ℕ, refl}
use Rattle.hoist_base.specs.LineData.{last_stage, move_count}
use Rattle.timetable.specs.TimetableData.{timetable_of}
use Rattle.timetable.specs.Faults.{IsAstray}
use Rattle.timetable.proofs.Pairs.{none_under_more, none_under_less}
use Rattle.timetable.proofs.CarryFaults.{motion_first, motion_none}
use Rattle.timetable.proofs.carrying.first_motion.Goals as goal

pub returns-in-Some : goal.returns-in-Some
returns-in-Some c =
    let l = c.args.line.now in
    let p = timetable_of c.args.t.now in
    let e = c.move_at-m.ensures.value in
    let least = rw e at c.in-Some.ensures in
    let want = rw (c.motion.ensures.value, e) at c.place-want.ensures.value in
    let seen = rw (c.hoist.ensures.value, c.start.ensures.value, e) at c.position-seen.ensures.value in
    rw e (motion_first l p (last_stage l) c.loop-number.number c.in-Some.u c.place-want.result c.position-seen.result
    refl c.loop-number.invariant least want seen)

pub loop-number-preserved : goal.loop-number-preserved
loop-number-preserved c =
    let l = c.args.line.now in
    let p = timetable_of c.args.t.now in
    let none = rw c.move_at-m.ensures.value at c.in_default.ensures in
    none_under_more (last_stage l) c.loop-number.number (λ x k. (v : ℕ) × IsAstray l p x k v) c.loop-number.invariant
    (λ has. none has.0 has.1)

pub returns : goal.returns
returns c =
    let l = c.args.line.now in
    let p = timetable_of c.args.t.now in
    let le = rw c.move_count-number-end.ensures.value at c.loop-number-test.false in
    motion_none l p (last_stage l) refl
    (none_under_less (last_stage l) c.loop-number.number (move_count l) (λ x k. (v : ℕ) × IsAstray l p x k v) c.loop-number.invariant le)
