use Rattle.std.proofs.Common.{◌≤◌, reverse}
use Rattle.choice_tree.specs.Nodes.{Leads}
use Rattle.choice_tree.proofs.tree.Tree.path.Given as goal

abbrev pub invariant-loop-at : goal.invariant-loop-at
invariant-loop-at l = (l.at ≤ l.i) × Leads l.self-inside.nodes.items l.at (reverse l.path.items) l.i

abbrev pub decreases-loop-at : goal.decreases-loop-at
decreases-loop-at l = l.at
