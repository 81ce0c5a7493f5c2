use Rattle.collision_pairs.proofs.ClashLemmas.{are_tight}
use Rattle.collision_pairs.proofs.laws.tight.Goals as goal

pub returns : goal.returns
returns c = are_tight
