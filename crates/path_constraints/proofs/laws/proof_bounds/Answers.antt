use Rattle.path_constraints.proofs.CoverTreeLemmas as lemmas
use Rattle.path_constraints.proofs.laws.proof_bounds.Goals as goal

pub returns : goal.returns
returns c = lemmas.proof_bounds
