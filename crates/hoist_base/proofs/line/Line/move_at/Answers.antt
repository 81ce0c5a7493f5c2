use Rattle.std.proofs.Common.{arith}
use Rattle.hoist_base.proofs.NumberLemmas.{first_moves}
use Rattle.hoist_base.proofs.line.Line.move_at.Goals as goal

pub returns-then-number-steps-clause-value : goal.returns-then-number-steps-clause-value
returns-then-number-steps-clause-value c =
    first_moves c.args.self.now c.args.number (omega (arith, c.if-number-steps.true, c.inner-steps.ensures.value, c.inner-steps.ensures.count))
