use Rattle.branch_rounds.proofs.OneLemmas.{search_is_one}
use Rattle.branch_rounds.proofs.laws.search_is_one.Goals as goal

pub returns : goal.returns
returns c = search_is_one
