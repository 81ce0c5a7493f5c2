use Rattle.std.proofs.Common.{◌<◌, List, length, ap, arith}
use Rattle.choice_tree.specs.declared.node.Node.{Node}
use Rattle.choice_tree.proofs.PathLemmas.{path_up}
use Rattle.choice_tree.proofs.tree.Tree.path.Goals as goal

pub loop-at-preserved : goal.loop-at-preserved
loop-at-preserved c =
    let here : c.loop-at.at < length c.self.inside.nodes.items =
    omega (arith, c.loop-at.invariant.0, c.requires, ap (λ (xs : List Node). length xs) c.self.view_is) in
    let r = path_up _ _ _ _ _ _ _ c.self.invariant.0 c.self.invariant.1 c.loop-at-test.true here c.index-origin.ensures
    c.loop-at.invariant.1 c.in_ok-push.ensures.items in
    (omega (arith, r.0, c.loop-at.invariant.0), r.1)
