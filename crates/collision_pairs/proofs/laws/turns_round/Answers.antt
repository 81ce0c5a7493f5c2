use Rattle.collision_pairs.proofs.ClashLemmas.{turns_round}
use Rattle.collision_pairs.proofs.laws.turns_round.Goals as goal

pub returns : goal.returns
returns c = turns_round
