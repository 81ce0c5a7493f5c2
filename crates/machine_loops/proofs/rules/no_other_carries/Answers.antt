use Rattle.std.proofs.Common.{rules}
use Rattle.list_facts.proofs.Elements.{up_to_more}
use Rattle.tick_machine.specs.Scene.{scene_of}
use Rattle.machine_loops.specs.RuleTests.{CarriesOnlyAt}
use Rattle.machine_loops.proofs.rules.no_other_carries.Goals as goal

pub loop-j-preserved : goal.loop-j-preserved
loop-j-preserved c = up_to_more (CarriesOnlyAt (scene_of c.args.frame.now) c.args.carrier c.args.h) c.loop-j.j
    c.loop-j.invariant (c.carries_only_at.ensures.0 (search rules))
