use Rattle.line_gen.proofs.Built.{tanks_more}
use Rattle.line_gen.proofs.generator.tanks_of.Goals as goal

pub loop-i-preserved : goal.loop-i-preserved
loop-i-preserved c =
    tanks_more c.args.baths c.loop-i.i c.loop-i.tanks.items c.push.new.self.items c.in_ok-name.name c.loop-i.invariant
    c.in_ok-push.ensures.items c.in_ok-name.ensures
