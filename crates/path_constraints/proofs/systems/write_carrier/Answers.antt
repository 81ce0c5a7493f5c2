use Rattle.std.proofs.Common.{arith}
use Rattle.path_constraints.proofs.BaseLemmas.{steps_more, carrier_written}
use Rattle.path_constraints.proofs.systems.write_carrier.Goals as goal

pub loop-step-preserved : goal.loop-step-preserved
loop-step-preserved c =
    steps_more c.args.line.now c.args.path.now c.args.carrier c.loop-step.step c.args.s.now c.loop-step.s c.write_move.new.s
    c.write.ensures.valid.limits.stages.0 c.loop-step.invariant c.write_move.ensures.written

pub returns : goal.returns
returns c =
    carrier_written c.args.line.now c.args.path.now c.args.carrier c.loop-step.step c.args.s.now c.loop-step.s c.write.ensures.valid.limits.stages.0
    (omega (arith, c.loop-step-test.false, c.loop-step.auto.step-end, c.inner-step-end.ensures.count)) c.loop-step.invariant
