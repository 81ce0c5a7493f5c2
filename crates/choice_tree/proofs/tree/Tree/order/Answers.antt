use Rattle.choice_tree.proofs.OrderLemmas.{walked_next, walked_falls}
use Rattle.choice_tree.proofs.tree.Tree.order.Goals as goal

pub loop-i-smaller : goal.loop-i-smaller
loop-i-smaller c =
    walked_falls _ c.self.invariant.0 _ _ _ _ _ _ _ c.loop-i.invariant c.in-Some.ensures.items c.index.ensures c.children.ensures c.in_ok-push_reversed.ensures

pub loop-i-preserved : goal.loop-i-preserved
loop-i-preserved c =
    walked_next _ c.self.invariant.0 _ _ _ _ _ _ _ _ c.loop-i.invariant c.in-Some.ensures.items c.index.ensures
    c.children.ensures c.in_ok-push_reversed.ensures c.in_ok-push-2.ensures.items
