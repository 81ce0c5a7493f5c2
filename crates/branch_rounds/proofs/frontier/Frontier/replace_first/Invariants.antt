use Rattle.std.proofs.Common.{◌≡◌, ◌++◌, take, reverse}
use Rattle.branch_rounds.proofs.frontier.Frontier.replace_first.Given as goal

abbrev pub invariant-loop-k : goal.invariant-loop-k
invariant-loop-k l = l.self-inside.stack.items ≡ l.initial.self-inside.stack.items ++ take l.k (reverse l.paths)
