use Rattle.std.proofs.Common.{◌≡◌, ◌++◌, take, reverse}
use Rattle.choice_tree.proofs.tree.push_reversed.Given as goal

abbrev pub invariant-loop-k : goal.invariant-loop-k
invariant-loop-k l = l.stack.items ≡ l.fn.stack.items ++ take l.k (reverse l.numbers)
