use Rattle.timeway.proofs.Exact.{rides_exact}
use Rattle.timeway.proofs.laws.rides_are_exact.Goals as goal

pub returns : goal.returns
returns c = rides_exact
