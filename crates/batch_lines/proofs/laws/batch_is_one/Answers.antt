use Rattle.batch_lines.proofs.BatchLemmas.{batch_is_one}
use Rattle.batch_lines.proofs.laws.batch_is_one.Goals as goal

pub returns : goal.returns
returns c = batch_is_one
