use Rattle.cert_checker.proofs.WaitLemmas.{waits_more, waits_all}
use Rattle.cert_checker.proofs.tree.push_children.Goals as goal

pub loop-k-preserved : goal.loop-k-preserved
loop-k-preserved c =
    waits_more c.args.above c.args.question c.args.children.now _ _ _ c.loop-k.k c.loop-k-test.true c.loop-k.invariant c.in_ok-push.ensures.items

pub returns : goal.returns
returns c =
    waits_all c.args.above c.args.question c.args.children.now _ _ c.loop-k.k c.loop-k-test.false c.loop-k.invariant
