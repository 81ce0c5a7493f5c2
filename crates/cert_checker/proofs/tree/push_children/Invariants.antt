use Rattle.std.proofs.Common.{◌≡◌, ◌++◌, take, reverse}
use Rattle.cert_checker.specs.Waiting.{waits_of}
use Rattle.cert_checker.proofs.tree.push_children.Given as goal

abbrev pub invariant-loop-k : goal.invariant-loop-k
invariant-loop-k l = l.waiting.items ≡ l.fn.waiting.items ++ take l.k (reverse (waits_of l.above l.question 0 l.children))
