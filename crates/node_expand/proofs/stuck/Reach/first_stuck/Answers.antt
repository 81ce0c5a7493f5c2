use Rattle.node_expand.proofs.ReachLemmas.{stuck_same}
use Rattle.node_expand.proofs.stuck.Reach.first_stuck.Goals as goal

pub returns-then-self : goal.returns-then-self
returns-then-self c =
    stuck_same c.args.line.now c.args.path.now c.args.self.stuck (c.requires.reach.single c.if-self.true) c.requires.fits c.requires.reach.stuck
