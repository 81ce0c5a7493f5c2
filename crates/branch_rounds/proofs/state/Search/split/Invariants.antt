use Rattle.std.proofs.Common.{◌≡◌, ◌++◌}
use Rattle.choice_tree.specs.Nodes.{numbers_from}
use Rattle.branch_rounds.proofs.state.Search.split.Given as goal

abbrev pub invariant-loop-child : goal.invariant-loop-child
invariant-loop-child l = l.paths.items ≡ l.initial.paths.items ++ numbers_from l.first l.child
