use Rattle.std.proofs.Common.{◌≡◌, arith}
use Rattle.std.specs.Prelude.{IsTrue}
use Rattle.std.proofs.lemmas.Int.{ints}
use mir.Val.{to_z, of_z}
use mir.Syntax.{w64}
use Rattle.path_constraints.specs.Ticks.{tick_at}
use Rattle.path_constraints.proofs.FailLemmas.{fails_tanks, fails_hoists, order_small}
use Rattle.path_constraints.proofs.failing.fails.Goals as goal

pub returns-in-TankOrder : goal.returns-in-TankOrder
returns-in-TankOrder c =
    let x = c.in-TankOrder in
    let small = order_small c.args.line.now c.args.path.now c.args.question _ x.is c.requires.question in
    let q : to_z w64 (of_z w64 x.q) ≡ x.q = omega (arith, ints, small) in
    fails_tanks c.args.line.now c.args.path.now (tick_at c.args.ticks.now) c.args.period c.args.question x.a x.b x.q (to_z w64 (of_z w64 x.q))
    (IsTrue c.fails_tank_order.result) x.is q c.fails_tank_order.ensures

pub returns-in-HoistOrder : goal.returns-in-HoistOrder
returns-in-HoistOrder c =
    let x = c.in-HoistOrder in
    let small = order_small c.args.line.now c.args.path.now c.args.question _ x.is c.requires.question in
    let q : to_z w64 (of_z w64 x.q) ≡ x.q = omega (arith, ints, small) in
    fails_hoists c.args.line.now c.args.path.now (tick_at c.args.ticks.now) c.args.period c.args.question x.a x.b x.q (to_z w64 (of_z w64 x.q))
    (IsTrue c.fails_hoist_order.result) x.is q c.fails_hoist_order.ensures
