use Rattle.collision_pairs.proofs.CornerLemmas.{all_more}
use Rattle.collision_pairs.proofs.pairs.around_all.Goals as goal

pub loop-point-preserved : goal.loop-point-preserved
loop-point-preserved c =
    all_more c.args.room c.args.points.now c.args.others.now c.loop-point.point-index (record {
      tick = 0;
      at = 0;
    }) c.loop-point.span c.around_one.result c.join-span.result
    c.loop-point-test.true c.around_one.ensures c.join-span.ensures c.loop-point.invariant
