use Rattle.enough_budget.proofs.AgainLemmas as lemmas
use Rattle.enough_budget.proofs.laws.never_again.Goals as goal

pub returns : goal.returns
returns c = lemmas.never_again
