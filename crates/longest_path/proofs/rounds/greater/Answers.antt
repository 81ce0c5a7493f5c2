use Rattle.std.proofs.Common.{arith}
use Rattle.std.proofs.lemmas.Int.{ints, clamps}
use Rattle.longest_path.proofs.rounds.greater.Goals as goal

pub returns-clause-value : goal.returns-clause-value
returns-clause-value c =
    omega (arith, ints, clamps, c.max.ensures.value, c.requires.row.0, c.requires.row.1, c.requires.weights.0, c.requires.weights.1)

pub returns-clause-small : goal.returns-clause-small
returns-clause-small c =
    omega (arith, ints, clamps, c.max.ensures.value, c.requires.row.0, c.requires.row.1, c.requires.weights.0, c.requires.weights.1)
