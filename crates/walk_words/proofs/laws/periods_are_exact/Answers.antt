use Rattle.walk_words.proofs.Exact.{left_exact}
use Rattle.walk_words.proofs.laws.periods_are_exact.Goals as goal

pub returns : goal.returns
returns c = λ s t. left_exact s.w s.q t
