use Rattle.std.proofs.Common.{◌+◌}
use Rattle.line_gen.proofs.Built.{numbers_more}
use Rattle.line_gen.proofs.choices.Choices.of_seed.Goals as goal

pub loop-bath-preserved : goal.loop-bath-preserved
loop-bath-preserved c =
    let l = c.loop-bath in
    numbers_more c.args.seed l._bath l.z.items c.push.new.self.items c.next.result c.next.new.self.x
    (c.next.ensures.next c.args.seed (3 + l._bath) l.invariant.0) c.next.ensures.small l.invariant.2 c.in_ok-push.ensures.items
    c.next.ensures.value
