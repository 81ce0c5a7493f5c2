use Rattle.std.proofs.Common.{arith}
use Rattle.window_margin.proofs.TheoremLemmas.{hoists_are}
use Rattle.window_margin.proofs.margins.hoists_of.Goals as goal

pub returns : goal.returns
returns c =
    hoists_are c.args.line.now c.args.t.now c.loop-number.number c.loop-number.numbers.items c.from_vec.result c.requires.fits
    (omega (arith, c.loop-number-test.false, c.loop-number.auto.number-end, c.move_count-count.ensures.value)) c.loop-number.invariant.0
    c.loop-number.invariant.1 c.from_vec.ensures
