use Rattle.std.proofs.Common.{◌-◌, ◌<◌, length, get_or, arith}
use Rattle.std.proofs.lemmas.List.{get_or_default}
use Rattle.choice_tree.proofs.OrderLemmas.{pushed_more}
use Rattle.choice_tree.proofs.tree.push_reversed.Goals as goal

pub loop-k-preserved : goal.loop-k-preserved
loop-k-preserved c =
    let xs = c.args.numbers.now in
    let at = length xs - 1 - c.loop-k.k in
    let lt : c.loop-k.k < length xs = c.loop-k-test.true in
    let there : at < length xs = omega arith in
    pushed_more _ _ _ _ _ _ lt (get_or_default xs at 0 (get_or xs at 0) there) c.loop-k.invariant c.in_ok-push.ensures.items
