use Rattle.std.proofs.Common.{arith}
use Rattle.std.proofs.lemmas.Int.{ints}
use Rattle.hoist_base.specs.LineData.{move_number}
use Rattle.hoist_base.proofs.NumberLemmas.{move_below}
use Rattle.period_constraints.proofs.stays.since_first.Goals as goal

pub overflow_cast-result : goal.overflow_cast-result
overflow_cast-result c =
    let l = c.args.line.now in
    let m = c.args.moment in
    let r = c.requires in
    omega (
      arith,
      ints,
      c.tick_of-tick.ensures.value,
      r.ticks.1 0,
      r.ticks.1 (move_number l m.carrier m.step),
      r.near (move_number l m.carrier m.step)
          (move_below l m.carrier m.step r.there),
      r.fixed,
    )

pub returns-clause-value : goal.returns-clause-value
returns-clause-value c =
    let l = c.args.line.now in
    let m = c.args.moment in
    let r = c.requires in
    omega (
      arith,
      ints,
      c.tick_of-tick.ensures.value,
      r.ticks.1 0,
      r.ticks.1 (move_number l m.carrier m.step),
      r.near (move_number l m.carrier m.step)
          (move_below l m.carrier m.step r.there),
      r.fixed,
    )

pub returns-clause-near : goal.returns-clause-near
returns-clause-near c =
    let l = c.args.line.now in
    let m = c.args.moment in
    let r = c.requires in
    omega (
      arith,
      ints,
      c.tick_of-tick.ensures.value,
      r.ticks.1 0,
      r.ticks.1 (move_number l m.carrier m.step),
      r.near (move_number l m.carrier m.step)
          (move_below l m.carrier m.step r.there),
      r.fixed,
    )
