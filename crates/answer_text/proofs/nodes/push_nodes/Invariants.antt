use Rattle.std.proofs.Common.{◌≡◌, ◌++◌, take}
use Rattle.std.specs.List.{flat_map}
use Rattle.choice_tree.specs.Nodes.{node_at}
use Rattle.answer_text.specs.Nodes.{node_text}
use Rattle.answer_text.proofs.nodes.push_nodes.Given as goal

abbrev pub invariant-loop-i : goal.invariant-loop-i
invariant-loop-i l =
    l.text.items ≡ l.fn.text.items ++ flat_map (λ i. node_text l.single (node_at l.tree i)) (take l.i-index l.order)
