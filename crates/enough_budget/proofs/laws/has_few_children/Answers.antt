use Rattle.enough_budget.proofs.PathLemmas as lemmas
use Rattle.enough_budget.proofs.laws.has_few_children.Goals as goal

pub returns : goal.returns
returns c = lemmas.has_few_children
