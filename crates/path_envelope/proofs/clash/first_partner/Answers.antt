-- The first partner of the first hoist that has one.
use Rattle.std.proofs.Common.{arith}
use Rattle.path_envelope.proofs.FirstLemmas.{first_of_all, none_of_more_hoists, none_at_all, as_first_partner}
use Rattle.path_envelope.proofs.clash.first_partner.Goals as goal

pub returns-in-Some : goal.returns-in-Some
returns-in-Some c =
    let (g, first, near) = c.in-Some.ensures in
    as_first_partner c.args.asked.line.now _ c.args.x c.in-Some.y g (first_of_all c.args.asked.line.now _ _ c.loop-h.h g c.loop-h.invariant first) near

pub loop-h-preserved : goal.loop-h-preserved
loop-h-preserved c = none_of_more_hoists c.args.asked.line.now _ _ c.loop-h.h c.loop-h.invariant c.in_default.ensures

pub returns : goal.returns
returns c = none_at_all c.args.asked.line.now _ _ c.loop-h.h c.requires.moves.reach c.loop-h.invariant (omega arith)
