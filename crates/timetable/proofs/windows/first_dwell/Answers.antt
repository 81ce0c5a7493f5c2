use Rattle.std.proofs.Common.{◌≡◌, length, rules, refl, w64}
use Rattle.std.specs.Prelude.{true, false}
use Rattle.std.proofs.lemmas.Int.{to_z-of_z}
use mir.Val.{SFits}
use Rattle.hoist_base.specs.LineData.{visit_at, visit_count}
use Rattle.timetable.specs.TimetableData.{timetable_of}
use Rattle.timetable.specs.Faults.{IsOutside}
use Rattle.timetable.proofs.Pairs.{none_under_more, none_under_less}
use Rattle.timetable.proofs.WindowFaults.{dwell_first, dwell_none}
use Rattle.timetable.proofs.windows.first_dwell.Goals as goal

pub returns : goal.returns
returns c =
    let l = c.args.line.now in
    let p = timetable_of c.args.t.now in
    let le = rw c.visit_count-number-end.ensures.value at c.loop-number-test.false in
    dwell_none l p (length l.stages) refl
    (none_under_less (length l.stages) c.loop-number.number (visit_count l) (IsOutside l p) c.loop-number.invariant le)

pub returns-then-is_outside : goal.returns-then-is_outside
returns-then-is_outside c =
    let l = c.args.line.now in
    let p = timetable_of c.args.t.now in
    let e = c.visit_at-v.ensures.value in
    let i = c.loop-number.number in
    let v = visit_at l i in
    let fits : SFits w64 c.dwell-ticks.result = search rules in
    let is = rw e at c.dwell-ticks.ensures in
    let there = rw e at c.visit_at-v.ensures.there in
    let found = rw (to_z-of_z w64 c.dwell-ticks.result fits, c.dwell-ticks.ensures, e) at (c.if-is_outside.ensures.0 refl) in
    let outside : IsOutside l p v.carrier v.stage = (there, found) in
    rw (e, to_z-of_z w64 c.dwell-ticks.result fits)
    (dwell_first l p (length l.stages) i c.dwell-ticks.result refl c.loop-number.invariant outside is)

pub loop-number-preserved : goal.loop-number-preserved
loop-number-preserved c =
    let l = c.args.line.now in
    let p = timetable_of c.args.t.now in
    let fits : SFits w64 c.dwell-ticks.result = search rules in
    let none = rw (to_z-of_z w64 c.dwell-ticks.result fits, c.dwell-ticks.ensures, c.visit_at-v.ensures.value) at c.if-is_outside.ensures.1 in
    none_under_more (length l.stages) c.loop-number.number (IsOutside l p) c.loop-number.invariant
    (λ outside. let no : false ≡ true = none outside.1 in cc)
