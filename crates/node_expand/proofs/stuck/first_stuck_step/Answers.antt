use Rattle.std.proofs.Common.{arith}
use Rattle.path_constraints.specs.Tanks.{IsStuck}
use Rattle.node_expand.proofs.NoneLemmas.{none_more}
use Rattle.node_expand.proofs.stuck.first_stuck_step.Goals as goal

pub returns-then-is_stuck : goal.returns-then-is_stuck
returns-then-is_stuck c = (omega arith, c.is_stuck.ensures.0 c.if-is_stuck.true, c.loop-step.invariant)

pub loop-step-preserved : goal.loop-step-preserved
loop-step-preserved c =
    none_more (λ j. IsStuck c.args.line.now c.args.path.now c.args.carrier j) c.loop-step.step c.loop-step.invariant
    (λ stuck. let yes = c.is_stuck.ensures.1 stuck in let no = c.if-is_stuck.false in cc)
