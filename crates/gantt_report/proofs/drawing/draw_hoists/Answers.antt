use Rattle.std.proofs.Common.{◌<◌, ◌+◌, ◌*◌, get_or, false, ap, ◌∙◌, refl, arith}
use Rattle.timetable.specs.TimetableData.{timetable_of}
use Rattle.gantt_report.specs.Chart.{hoist_cell}
use Rattle.gantt_report.proofs.Cells.{none_drawn, one_drawn, all_drawn}
use Rattle.gantt_report.proofs.drawing.draw_hoists.Goals as goal

pub loop-h-init : goal.loop-h-init
loop-h-init c = none_drawn c.args.line.now (timetable_of c.args.t.now) c.args.tick c.args.row.now.items c.requires.ground

pub loop-h-preserved : goal.loop-h-preserved
loop-h-preserved c =
    let l = c.loop-h in
    let there : l.h < c.args.line.now.hoists = omega (arith, c.loop-h-test.true, c.hoists-h-end.ensures.value) in
    one_drawn c.args.line.now (timetable_of c.args.t.now) c.args.tick l.h c.position-at.result c.draw_hoist.new.cell l.row.items _ l.invariant
    c.position-at.ensures.value
    (omega (arith, c.requires.within l.h there, c.position-at.ensures.value, l.invariant.0))
    (c.draw_hoist.ensures
    ∙ ap (hoist_cell l.h) (ap (λ n. get_or c.args.marks.now (l.h * n + c.args.tick) false) c.period.ensures.value
    ∙ c.requires.marks.each l.h c.args.tick there c.requires.tick))
    refl

pub returns : goal.returns
returns c =
    all_drawn c.args.line.now (timetable_of c.args.t.now) c.args.tick c.loop-h.h c.loop-h.row.items c.loop-h.invariant
    (omega (arith, c.loop-h-test.false, c.loop-h.auto.h-end, c.hoists-h-end.ensures.value))
