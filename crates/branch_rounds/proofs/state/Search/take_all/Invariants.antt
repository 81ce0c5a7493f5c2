use Rattle.branch_rounds.proofs.TakeLemmas.{IsTaking}
use Rattle.branch_rounds.proofs.state.Search.take_all.Given as goal

abbrev pub invariant-loop-expanded : goal.invariant-loop-expanded
invariant-loop-expanded l =
    IsTaking l.fn.self l.fn.expansions.items l.yielded l.expanded-iterator.rest.items l.k l.self.tree l.paths.items l.self.best l.self.splits l.self.frontier
