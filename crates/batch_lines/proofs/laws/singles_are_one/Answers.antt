use Rattle.batch_lines.proofs.BatchLemmas.{singles_are_one}
use Rattle.batch_lines.proofs.laws.singles_are_one.Goals as goal

pub returns : goal.returns
returns c = singles_are_one
