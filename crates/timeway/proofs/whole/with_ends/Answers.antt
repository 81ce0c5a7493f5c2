use Rattle.timeway.specs.Diagram.{end_line}
use Rattle.markup.proofs.Trees.{holds_more, holds_none}
use Rattle.timeway.proofs.whole.with_ends.Goals as goal

pub loop-i-init : goal.loop-i-init
loop-i-init c = holds_none c.args.plot (end_line c.args.line.now c.args.period)

pub loop-i-preserved : goal.loop-i-preserved
loop-i-preserved c =
    holds_more c.args.plot c.loop-i.plot c.in_ok-plot.plot c.in_ok-shape.shape
    (end_line c.args.line.now c.args.period) c.loop-i.i c.loop-i.invariant
    (c.in_ok-shape.ensures) c.in_ok-plot.ensures
