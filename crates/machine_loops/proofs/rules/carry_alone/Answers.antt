use Rattle.std.proofs.Common.{rules, length}
use Rattle.list_facts.proofs.Elements.{up_to_more}
use Rattle.tick_machine.specs.Scene.{scene_of}
use Rattle.machine_loops.specs.RuleTests.{CarriesAlone}
use Rattle.machine_loops.proofs.rules.carry_alone.Goals as goal

pub loop-h-preserved : goal.loop-h-preserved
loop-h-preserved c = up_to_more (CarriesAlone (scene_of c.args.frame.now)
    (length c.args.frame.now.carry.items)) c.loop-h.h c.loop-h.invariant (c.carries_alone.ensures.0 (search rules))
