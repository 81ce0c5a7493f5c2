use Rattle.std.proofs.Common.{◌≡◌, replicate, Some}
use Rattle.choice_tree.specs.declared.node.Node.TheVariants.{Left}
use Rattle.choice_tree.proofs.tree.left_nodes.Given as goal

abbrev pub invariant-loop-i : goal.invariant-loop-i
invariant-loop-i l = l.nodes.items ≡ replicate l._i (Left (Some l.low))
