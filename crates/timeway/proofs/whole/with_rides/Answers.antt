use Rattle.std.proofs.Common.{ap, ◌∙◌}
use Rattle.hoist_base.specs.declared.ids.MoveId.{MoveId}
use Rattle.hoist_base.specs.LineData.{move_at}
use Rattle.timetable.specs.TimetableData.{timetable_of}
use Rattle.timeway.specs.Shapes.{ride}
use Rattle.markup.proofs.Trees.{holds_more, holds_none}
use Rattle.timeway.proofs.whole.with_rides.Goals as goal

pub loop-i-init : goal.loop-i-init
loop-i-init c = holds_none c.args.plot (λ i. ride c.args.line.now (timetable_of c.args.t.now)
    (move_at c.args.line.now i).carrier (move_at c.args.line.now i).step)

pub loop-i-preserved : goal.loop-i-preserved
loop-i-preserved c =
    holds_more c.args.plot c.loop-i.plot c.in_ok-plot.plot c.in_ok-shape.shape
    (λ i. ride c.args.line.now (timetable_of c.args.t.now) (move_at c.args.line.now i).carrier (move_at c.args.line.now i).step) c.loop-i.i c.loop-i.invariant
    (c.in_ok-shape.ensures ∙ ap (λ (m : MoveId). ride c.args.line.now
    (timetable_of c.args.t.now) m.carrier m.step) c.move_at.ensures.value) c.in_ok-plot.ensures
