use Rattle.std.proofs.Common.{rules}
use Rattle.list_facts.proofs.Elements.{up_to_more}
use Rattle.tick_machine.specs.Layout.{layout_of}
use Rattle.tick_machine.specs.Scene.{scene_of}
use Rattle.machine_loops.specs.RuleTests.{CarryKeeps}
use Rattle.machine_loops.proofs.rules.carries_keep.Goals as goal

pub loop-h-preserved : goal.loop-h-preserved
loop-h-preserved c = up_to_more (CarryKeeps (layout_of c.args.line.now)
    (scene_of c.args.frame.now)) c.loop-h.h c.loop-h.invariant (c.carry_keeps_at.ensures.0 (search rules))
