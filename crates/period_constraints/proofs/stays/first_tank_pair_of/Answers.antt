use Rattle.std.proofs.Common.{◌≡◌, arith}
use Rattle.std.proofs.lemmas.Int.{ints}
use mir.Val.{to_z, of_z}
use mir.Syntax.{w64}
use Rattle.path_constraints.specs.Ticks.{tick_at}
use Rattle.period_constraints.specs.Routed.{HoldOneTank}
use Rattle.period_constraints.proofs.PairLemmas.{row_found, row_more, row_none}
use Rattle.period_constraints.proofs.stays.first_tank_pair_of.Goals as goal

pub returns-in-Some-clause-first : goal.returns-in-Some-clause-first
returns-in-Some-clause-first c =
    let q : to_z w64 (of_z w64 c.in-Some.shift) ≡ c.in-Some.shift = omega (arith, ints, c.in-Some.ensures.small) in
    row_found (HoldOneTank c.args.line.now c.args.tanks.now (tick_at c.args.ticks.now) c.args.period) c.args.first c.loop-second.second c.in-Some.shift
    (to_z w64 (of_z w64 c.in-Some.shift)) q
    c.loop-second.invariant c.in-Some.ensures.first

pub loop-second-preserved : goal.loop-second-preserved
loop-second-preserved c =
    row_more (HoldOneTank c.args.line.now c.args.tanks.now (tick_at c.args.ticks.now) c.args.period) c.args.first c.loop-second.second c.loop-second.invariant
    c.in_default.ensures.first

pub returns-clause-first : goal.returns-clause-first
returns-clause-first c =
    row_none (HoldOneTank c.args.line.now c.args.tanks.now (tick_at c.args.ticks.now) c.args.period) c.args.first c.loop-second.second
    (λ k j q h. omega (arith, h.there, c.loop-second-test.false, c.visit_count-count.ensures.value)) c.loop-second.invariant
