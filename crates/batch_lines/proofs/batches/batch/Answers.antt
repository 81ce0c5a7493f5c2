use Rattle.batch_lines.proofs.BatchLemmas.{singles_of}
use Rattle.batch_lines.proofs.batches.batch.Goals as goal

pub returns : goal.returns
returns g c = rw c.from_vec.ensures (singles_of c.args.budget c.args.lines.now c.in_ok-singles.field-0.items c.in_ok-singles.ensures.answers)
