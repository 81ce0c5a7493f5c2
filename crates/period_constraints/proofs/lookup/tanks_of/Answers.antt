use Rattle.std.proofs.Common.{arith, length, ap, ℕ, List}
use Rattle.path_constraints.proofs.TankLemmas.{tanks_read, tanks_there}
use Rattle.period_constraints.proofs.lookup.tanks_of.Goals as goal

pub returns-clause-few : goal.returns-clause-few
returns-clause-few c =
    let k = c.args.stage in
    let read = tanks_read c.args.line.now k c.index-stages-stage.result _ _ c.stages.ensures.value c.requires c.as_slice.ensures in
    let same = ap (λ (ts : List ℕ). length ts) read in
    let count = c.stages.ensures.valid.stages.count k c.requires in
    (omega (arith, same, count.0), omega (arith, same, count.1))

pub returns-clause-there : goal.returns-clause-there
returns-clause-there c =
    let k = c.args.stage in
    let read = tanks_read c.args.line.now k c.index-stages-stage.result _ _ c.stages.ensures.value c.requires c.as_slice.ensures in
    tanks_there c.args.line.now k _ c.stages.ensures.valid read
