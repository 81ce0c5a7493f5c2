use Rattle.std.proofs.Common.{sym, ◌∙◌, arith}
use Rattle.path_constraints.specs.Ticks.{tick_at}
use Rattle.period_constraints.specs.Routed.{HoldOneTank}
use Rattle.period_constraints.proofs.PairLemmas.{rows_found, rows_more, rows_none}
use Rattle.period_constraints.proofs.stays.first_tank_pair.Goals as goal

pub loop-first-preserved : goal.loop-first-preserved
loop-first-preserved c =
    rows_more (HoldOneTank c.args.line.now c.args.tanks.now (tick_at c.args.ticks.now) c.args.period) c.loop-first.first c.first_tank_pair_of-pair.result
    c.loop-first.invariant
    c.first_tank_pair_of-pair.ensures.first (λ some. let is = c.is_some.ensures in let empty = c.if-is_some.false in cc)

pub returns-then-is_some-clause-first : goal.returns-then-is_some-clause-first
returns-then-is_some-clause-first c =
    rows_found (HoldOneTank c.args.line.now c.args.tanks.now (tick_at c.args.ticks.now) c.args.period) c.loop-first.first c.first_tank_pair_of-pair.result
    c.loop-first.invariant
    c.first_tank_pair_of-pair.ensures.first (sym c.is_some.ensures ∙ c.if-is_some.true)

pub returns-clause-first : goal.returns-clause-first
returns-clause-first c =
    rows_none (HoldOneTank c.args.line.now c.args.tanks.now (tick_at c.args.ticks.now) c.args.period) c.loop-first.first
    (λ k j q h. omega (arith, h.before, h.there, c.loop-first-test.false, c.visit_count-first-end.ensures.value)) c.loop-first.invariant
