use Rattle.degree_sweep.proofs.RowLemmas.{sweep_is_one}
use Rattle.degree_sweep.proofs.laws.sweep_is_one.Goals as goal

pub returns : goal.returns
returns c = sweep_is_one
