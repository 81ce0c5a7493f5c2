use Rattle.std.proofs.Common.{rules, length, arith}
use Rattle.machine_loops.specs.Lists.{scenes, commands}
use Rattle.machine_loops.proofs.CheckLemmas.{going_on}
use Rattle.machine_loops.proofs.checking.first_stray.Goals as goal

pub loop-i-preserved : goal.loop-i-preserved
loop-i-preserved c = (
  c.leads_on.ensures.sized,
  going_on c.args.line.now (length c.args.frames.now) (scenes c.args.frames.now)
      (commands c.args.orders.now) c.loop-i.i c.requires.valid (search rules) c.loop-i.invariant.1
      (c.leads_on.ensures.leads.0 (search rules)),
)

pub returns : goal.returns
returns c = record { some = c.requires.some.0; goes_on = λ i lt. c.loop-i.invariant.1.before i (omega (arith, lt, c.loop-i-test.false, c.loop-i.auto.i-end)) }
