use Rattle.cycle_walk.proofs.LawLemmas.{walk_is_canonical, canonical_is_one}
use Rattle.cycle_walk.proofs.laws.canonical_laws.Goals as goal

pub returns : goal.returns
returns c = record { canonical = walk_is_canonical; one = canonical_is_one }
