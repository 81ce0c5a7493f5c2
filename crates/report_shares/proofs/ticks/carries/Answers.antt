use Rattle.std.proofs.Common.{◌≡◌, refl, true, false, sym, ap, ◌∙◌, arith}
use Rattle.hoist_base.specs.declared.ids.MoveId.{MoveId}
use Rattle.hoist_base.specs.LineData.{move_count}
use Rattle.timetable.specs.TimetableData.{timetable_of}
use Rattle.report_shares.specs.Ticks.{carries_at, carries_by}
use Rattle.report_shares.proofs.CarryLaw.{some_at}
use Rattle.report_shares.proofs.Adding.{none_more}
use Rattle.report_shares.proofs.ticks.carries.Goals as goal

pub loop-i-init : goal.loop-i-init
loop-i-init c = refl

pub returns-then-carries_by : goal.returns-then-carries_by
returns-then-carries_by c =
    let test = carries_at c.args.line.now (timetable_of c.args.t.now) c.args.h c.args.tick in
    let here : carries_at c.args.line.now (timetable_of c.args.t.now) c.args.h c.args.tick c.loop-i.i ≡ true =
    sym (ap (λ (m : MoveId). carries_by c.args.line.now
    (timetable_of c.args.t.now) c.args.h c.args.tick m.carrier m.step) c.move_at.ensures.value) ∙ sym
    c.carries_by.ensures ∙ c.if-carries_by.true in
    sym (some_at (move_count c.args.line.now) c.loop-i.i test
    (omega (arith, c.loop-i-test.true, c.move_count-i-end.ensures.value)) here)

pub loop-i-preserved : goal.loop-i-preserved
loop-i-preserved c =
    let test = carries_at c.args.line.now (timetable_of c.args.t.now) c.args.h c.args.tick in
    let here : carries_at c.args.line.now (timetable_of c.args.t.now) c.args.h c.args.tick c.loop-i.i ≡ false =
    sym (ap (λ (m : MoveId). carries_by c.args.line.now
    (timetable_of c.args.t.now) c.args.h c.args.tick m.carrier m.step) c.move_at.ensures.value) ∙ sym
    c.carries_by.ensures ∙ c.if-carries_by.false in
    none_more test c.loop-i.i c.loop-i.invariant here
