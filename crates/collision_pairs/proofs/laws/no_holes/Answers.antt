use Rattle.collision_pairs.proofs.ClashLemmas.{has_no_holes}
use Rattle.collision_pairs.proofs.laws.no_holes.Goals as goal

pub returns : goal.returns
returns c = has_no_holes
