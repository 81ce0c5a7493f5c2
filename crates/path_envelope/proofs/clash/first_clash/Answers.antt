-- The first clash of the first hoist that has one.
use Rattle.std.proofs.Common.{arith}
use Rattle.path_envelope.proofs.FirstLemmas.{first_of_all, none_of_more_hoists, none_at_all, as_first_clash, agree_by_given}
use Rattle.path_envelope.proofs.clash.first_clash.Goals as goal

pub returns-in-Some : goal.returns-in-Some
returns-in-Some c =
    let (g, first, pair) = c.in-Some.ensures in
    as_first_clash c.args.asked.line.now _ c.in-Some.pair.0 c.in-Some.pair.1 g
    (first_of_all c.args.asked.line.now _ _ c.loop-h.h g c.loop-h.invariant first) pair

pub loop-h-preserved : goal.loop-h-preserved
loop-h-preserved c = none_of_more_hoists c.args.asked.line.now _ _ c.loop-h.h c.loop-h.invariant c.in_default.ensures

pub returns : goal.returns
returns c = agree_by_given c.args.asked.line.now _ (none_at_all c.args.asked.line.now _ _ c.loop-h.h c.requires.moves.reach c.loop-h.invariant (omega arith))
