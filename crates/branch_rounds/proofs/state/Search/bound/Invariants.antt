use Rattle.branch_rounds.proofs.OutcomeLemmas.{IsBoundTo}
use Rattle.branch_rounds.proofs.state.Search.bound.Given as goal

abbrev pub invariant-loop-k : goal.invariant-loop-k
invariant-loop-k l = IsBoundTo l.line l.self l.k l.bound
