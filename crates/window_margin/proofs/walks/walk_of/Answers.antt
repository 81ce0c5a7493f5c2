use Rattle.std.proofs.Common.{◌∙◌, arith}
use Rattle.window_margin.proofs.ListLemmas.{all_named}
use Rattle.window_margin.proofs.walks.walk_of.Goals as goal

pub returns : goal.returns
returns c =
    c.from_vec.ensures
    ∙ all_named c.args.line.now c.args.arcs.now c.args.walk.now c.loop-i.i c.loop-i.list.items c.loop-i.invariant
    (omega (arith, c.loop-i-test.false, c.loop-i.auto.i-end))
