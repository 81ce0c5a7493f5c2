use Rattle.std.proofs.Common.{rules}
use Rattle.list_facts.proofs.Elements.{up_to_more}
use Rattle.tick_machine.specs.Scene.{scene_of}
use Rattle.machine_loops.specs.RuleTests.{CarryIsLater}
use Rattle.machine_loops.proofs.checking.are_later_carries.Goals as goal

pub loop-h-preserved : goal.loop-h-preserved
loop-h-preserved c =
    up_to_more (CarryIsLater c.args.later (scene_of c.args.new.now)
    (scene_of c.args.old.now)) c.loop-h.h c.loop-h.invariant (c.is_later_carry_at.ensures.0 (search rules))
