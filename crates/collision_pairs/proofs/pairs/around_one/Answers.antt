use Rattle.collision_pairs.proofs.CornerLemmas.{one_more}
use Rattle.collision_pairs.proofs.pairs.around_one.Goals as goal

pub loop-other-preserved : goal.loop-other-preserved
loop-other-preserved c =
    one_more c.args.room c.args.point c.args.others.now c.loop-other.other-index (record {
      tick = 0;
      at = 0;
    }) c.loop-other.span c.reach.result c.join-span.result
    c.loop-other-test.true c.reach.ensures c.join-span.ensures c.loop-other.invariant
