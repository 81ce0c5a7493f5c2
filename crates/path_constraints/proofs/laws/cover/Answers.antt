use Rattle.path_constraints.proofs.CoverLemmas as lemmas
use Rattle.path_constraints.proofs.laws.cover.Goals as goal

pub returns : goal.returns
returns c = lemmas.cover
