use Rattle.walk_words.proofs.Exact.{least_exact}
use Rattle.walk_words.proofs.laws.bound_is_exact.Goals as goal

pub returns : goal.returns
returns c = least_exact
