use Rattle.std.proofs.Common.{ap, arith, rules}
use Rattle.line_gen.specs.Generated.{ChoiceData}
use Rattle.line_gen.proofs.Built.{stages_more, stages_all}
use Rattle.line_gen.proofs.generator.stages_of.Goals as goal

pub loop-i-preserved : goal.loop-i-preserved
loop-i-preserved c =
    stages_more c.args.choices.now c.loop-i.i c.loop-i.stages.items c.push-in-loop-i.new.self.items _ c.loop-i.invariant
    c.in_ok-push-2.ensures.items c.in_ok-bath.ensures

pub returns : goal.returns
returns c =
    stages_all c.args.choices.now c.loop-i.i c.loop-i.stages.items c.push-2.new.self.items c.loop-i.invariant
    (omega (arith, c.loop-i-test.false, c.loop-i.auto.i-end, ap (λ (x : ChoiceData). x.baths) c.choices.view_is)) (search rules)
