use Rattle.choice_tree.proofs.PathLemmas.{one_path, leads_on}
use Rattle.choice_tree.proofs.laws.paths.Goals as goal

pub returns : goal.returns
returns c = record { one = one_path; on = leads_on }
