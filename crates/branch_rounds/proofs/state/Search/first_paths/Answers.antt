use Rattle.std.proofs.Common.{arith}
use Rattle.branch_rounds.proofs.RoundLemmas.{at_frontier}
use Rattle.branch_rounds.proofs.state.Search.first_paths.Goals as goal

pub path-requires : goal.path-requires
path-requires c = omega (
  arith,
  c.node-node.ensures,
  (at_frontier c.args.self.now c.loop-k.k c.requires.placed
      (omega (arith, c.requires.count, c.loop-k-test.true))).0,
)
