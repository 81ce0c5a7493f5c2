use Rattle.timeway.specs.Diagram.{tank_note}
use Rattle.markup.proofs.Trees.{holds_more, holds_none}
use Rattle.timeway.proofs.whole.with_names.Goals as goal

pub loop-i-init : goal.loop-i-init
loop-i-init c = holds_none c.args.whole (tank_note c.args.line.now)

pub loop-i-preserved : goal.loop-i-preserved
loop-i-preserved c =
    holds_more c.args.whole c.loop-i.whole c.in_ok-whole.whole c.in_ok-words.words
    (tank_note c.args.line.now) c.loop-i.i c.loop-i.invariant
    (c.in_ok-words.ensures) c.in_ok-whole.ensures
