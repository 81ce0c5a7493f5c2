-- The next copy, or the one before it.
use Rattle.std.proofs.Common.{arith}
use Rattle.std.proofs.lemmas.Int.{ints}
use Rattle.path_envelope.proofs.NearLemmas.{nearest_after, nearest_before}
use Rattle.path_envelope.proofs.clash.nearest.Goals as goal

pub returns-then-after-period-clause-nearest : goal.returns-then-after-period-clause-nearest
returns-then-after-period-clause-nearest c =
    nearest_after c.args.period c.unsigned_abs.result c.args.tick c.args.to _ (omega arith) (omega (arith, ints, c.unsigned_abs.ensures.value, c.requires.to))
    (omega (arith, c.wait-after.ensures.value)) (omega (arith, ints, c.wait-after.ensures.value, c.from.ensures, c.requires.to))

pub returns-else-after-period-clause-nearest : goal.returns-else-after-period-clause-nearest
returns-else-after-period-clause-nearest c =
    nearest_before c.args.period c.unsigned_abs.result c.args.tick c.args.to _ (omega arith) (omega (arith, ints, c.unsigned_abs.ensures.value, c.requires.to))
    (omega (arith, c.wait-after.ensures.value)) (omega (
      arith,
      ints,
      c.wait-after.ensures.value,
      c.from.ensures,
      c.from-else-after-period.ensures,
      c.requires.to,
    ))
