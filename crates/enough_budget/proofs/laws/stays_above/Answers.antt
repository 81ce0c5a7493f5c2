use Rattle.enough_budget.proofs.PathLemmas as lemmas
use Rattle.enough_budget.proofs.laws.stays_above.Goals as goal

pub returns : goal.returns
returns c = lemmas.stays_above
