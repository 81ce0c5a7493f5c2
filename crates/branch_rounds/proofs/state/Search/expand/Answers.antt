use Rattle.std.proofs.Common.{arith}
use Rattle.branch_rounds.proofs.RoundLemmas.{at_frontier}
use Rattle.branch_rounds.proofs.state.Search.expand.Goals as goal

pub path-requires : goal.path-requires
path-requires c = omega (arith, c.node.ensures, (at_frontier c.args.self.now c.args.k c.requires.kept.placed c.requires.k).0)
