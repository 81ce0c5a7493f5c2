use Rattle.timeway.proofs.Exact.{ways_exact}
use Rattle.timeway.proofs.laws.ways_are_exact.Goals as goal

pub returns : goal.returns
returns c = ways_exact
