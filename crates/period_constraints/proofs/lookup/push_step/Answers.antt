use Rattle.std.proofs.Common.{◌/◌, ◌%◌, arith, length}
use Rattle.std.proofs.lemmas.Nat.{mul-le}
use Rattle.period_constraints.proofs.LookupLemmas.{row_there, column_there}
use Rattle.period_constraints.proofs.lookup.push_step.Goals as goal

pub overflow_mul-pair-end : goal.overflow_mul-pair-end
overflow_mul-pair-end c =
    let a = length c.tanks_of-from.result.now in
    let b = length c.tanks_of-to.result.now in
    omega (arith, mul-le a b 4 4 c.tanks_of-from.ensures.few.1 c.tanks_of-to.ensures.few.1)

pub motion_between-motion-requires-clause-tanks : goal.motion_between-motion-requires-clause-tanks
motion_between-motion-requires-clause-tanks c =
    let a = length c.tanks_of-from.result.now in
    let b = length c.tanks_of-to.result.now in
    let p = c.loop-pair.pair in (
      c.tanks_of-from.ensures.there (p / b) (row_there p a b c.loop-pair-test.true),
      c.tanks_of-to.ensures.there (p % b)
          (column_there p a b c.loop-pair-test.true),
    )
