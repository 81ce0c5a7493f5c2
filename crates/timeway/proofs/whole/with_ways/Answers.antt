use Rattle.timetable.specs.TimetableData.{timetable_of}
use Rattle.timeway.specs.Shapes.{way}
use Rattle.markup.proofs.Trees.{holds_more, holds_none}
use Rattle.timeway.proofs.whole.with_ways.Goals as goal

pub loop-h-init : goal.loop-h-init
loop-h-init c = holds_none c.args.plot (way c.args.line.now (timetable_of c.args.t.now))

pub loop-h-preserved : goal.loop-h-preserved
loop-h-preserved c =
    holds_more c.args.plot c.loop-h.plot c.in_ok-plot.plot c.in_ok-shape.shape
    (way c.args.line.now (timetable_of c.args.t.now)) c.loop-h.h c.loop-h.invariant
    (c.in_ok-shape.ensures) c.in_ok-plot.ensures
