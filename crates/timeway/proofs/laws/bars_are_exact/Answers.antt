use Rattle.timeway.proofs.Exact.{bars_exact}
use Rattle.timeway.proofs.laws.bars_are_exact.Goals as goal

pub returns : goal.returns
returns c = bars_exact
