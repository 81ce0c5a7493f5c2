use Rattle.std.proofs.Common.{◌≡◌, arith}
use Rattle.std.specs.Prelude.{IsTrue}
use Rattle.std.proofs.lemmas.Int.{ints}
use mir.Val.{to_z, of_z}
use mir.Syntax.{w64}
use Rattle.path_constraints.specs.Tanks.{low}
use Rattle.path_constraints.specs.Ticks.{tick_at}
use Rattle.path_constraints.proofs.FailLemmas.{together_is}
use Rattle.path_constraints.proofs.failing.fails_tank_order.Goals as goal

pub returns : goal.returns
returns c =
    let q : to_z w64 (of_z w64 c.args.q) ≡ c.args.q = omega (arith, ints, c.requires.q) in
    together_is c.args.line.now (low c.args.line.now c.args.path.now) (tick_at c.args.ticks.now) c.args.period c.args.a c.args.b c.args.q
    (to_z w64 (of_z w64 c.args.q)) (IsTrue c.hold_together.result)
    c.hold_of-first.result.begin c.hold_of-first.result.end c.hold_of-second.result.begin c.hold_of-second.result.end q
    c.hold_of-first.ensures.begin c.hold_of-first.ensures.end c.hold_of-second.ensures.begin c.hold_of-second.ensures.end c.hold_together.ensures
