use Rattle.std.proofs.Common.{rules, length}
use Rattle.list_facts.proofs.Elements.{up_to_more}
use Rattle.tick_machine.specs.Scene.{scene_of}
use Rattle.machine_loops.specs.RuleTests.{RestsAlone}
use Rattle.machine_loops.proofs.rules.rest_alone.Goals as goal

pub loop-i-preserved : goal.loop-i-preserved
loop-i-preserved c = up_to_more (RestsAlone (scene_of c.args.frame.now) (length c.args.frame.now.carry.items)
    (length c.args.frame.now.hold.items)) c.loop-i.i c.loop-i.invariant (c.rests_alone.ensures.0 (search rules))
