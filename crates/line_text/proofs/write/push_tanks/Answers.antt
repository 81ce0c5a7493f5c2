use Rattle.std.proofs.Common.{arith}
use Rattle.line_text.proofs.WrittenLemmas.{one_tank_more}
use Rattle.line_text.proofs.write.push_tanks.Goals as goal

pub loop-tank-preserved : goal.loop-tank-preserved
loop-tank-preserved c =
    one_tank_more c.args.tanks.now c.loop-tank.tank-index c.tank-item.result c.tank-item.result _ _ _
    (omega (arith, c.loop-tank-test.true, c.loop-tank.auto.tank-index-end)) c.tank-item.is c.loop-tank.invariant c.in_ok-push_tank.ensures
