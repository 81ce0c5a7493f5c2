use Rattle.choice_tree.proofs.OrderLemmas.{IsWalked, left_over}
use Rattle.choice_tree.proofs.tree.Tree.order.Given as goal

abbrev pub invariant-loop-i : goal.invariant-loop-i
invariant-loop-i l = IsWalked l.self-inside.nodes.items l.order.items l.waiting.items

abbrev pub decreases-loop-i : goal.decreases-loop-i
decreases-loop-i l = left_over l.self-inside.nodes.items l.waiting.items
