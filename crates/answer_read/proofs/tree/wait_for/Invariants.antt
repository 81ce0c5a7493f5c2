use Rattle.std.proofs.Common.{◌≡◌, ◌++◌, ◌≤◌, ◌+◌, ◌-◌, reverse}
use Rattle.choice_tree.specs.Nodes.{numbers_from}
use Rattle.answer_read.proofs.tree.wait_for.Given as goal

abbrev pub invariant-loop-left : goal.invariant-loop-left
invariant-loop-left l = (reverse l.waiting.items ≡ numbers_from (l.first + l.left) (l.count - l.left) ++ reverse l.fn.waiting.items) × (l.left ≤ l.count)

abbrev pub decreases-loop-left : goal.decreases-loop-left
decreases-loop-left l = l.left
