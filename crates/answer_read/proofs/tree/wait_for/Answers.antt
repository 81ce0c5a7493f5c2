use Rattle.std.proofs.Common.{◌∷◌, ◌+◌, ◌-◌, reverse, ap, ◌∙◌, arith}
use Rattle.answer_read.proofs.Growing.{numbers_more, popped}
use Rattle.answer_read.proofs.tree.wait_for.Goals as goal

pub loop-left-preserved : goal.loop-left-preserved
loop-left-preserved c =
    let top = popped c.push.new.self.items c.loop-left.waiting.items (c.args.first + (c.loop-left.left - 1)) c.in_ok-push.ensures.items in (
      top ∙ ap (λ x. (c.args.first + (c.loop-left.left - 1)) ∷ x) c.loop-left.invariant.0
          ∙ numbers_more c.args.first c.loop-left.left c.args.count
          (reverse c.args.waiting.now.items) c.loop-left-test.true c.loop-left.invariant.1,
      omega (arith, c.loop-left.invariant.1),
    )
