use Rattle.std.proofs.Common.{ap, ◌∙◌}
use Rattle.hoist_base.specs.declared.ids.VisitId.{VisitId}
use Rattle.hoist_base.specs.LineData.{visit_at}
use Rattle.timetable.specs.TimetableData.{timetable_of}
use Rattle.timeway.specs.Shapes.{bar}
use Rattle.markup.proofs.Trees.{holds_more, holds_none}
use Rattle.timeway.proofs.whole.with_bars.Goals as goal

pub loop-i-init : goal.loop-i-init
loop-i-init c = holds_none c.args.plot (λ i. bar c.args.line.now (timetable_of c.args.t.now)
    (visit_at c.args.line.now i).carrier (visit_at c.args.line.now i).stage)

pub loop-i-preserved : goal.loop-i-preserved
loop-i-preserved c =
    holds_more c.args.plot c.loop-i.plot c.in_ok-plot.plot c.in_ok-shape.shape
    (λ i. bar c.args.line.now (timetable_of c.args.t.now) (visit_at c.args.line.now i).carrier (visit_at c.args.line.now i).stage) c.loop-i.i c.loop-i.invariant
    (c.in_ok-shape.ensures ∙ ap (λ (v : VisitId). bar c.args.line.now
    (timetable_of c.args.t.now) v.carrier v.stage) c.visit_at.ensures.value) c.in_ok-plot.ensures
