use Rattle.std.proofs.Common.{rules}
use Rattle.list_facts.proofs.Elements.{up_to_more}
use Rattle.tick_machine.specs.Scene.{scene_of}
use Rattle.machine_loops.specs.RuleTests.{HoldIsLater}
use Rattle.machine_loops.proofs.checking.are_later_holds.Goals as goal

pub loop-i-preserved : goal.loop-i-preserved
loop-i-preserved c =
    up_to_more (HoldIsLater c.args.later (scene_of c.args.new.now)
    (scene_of c.args.old.now)) c.loop-i.i c.loop-i.invariant (c.is_later_hold_at.ensures.0 (search rules))
