use Rattle.std.proofs.Common.{rules}
use Rattle.list_facts.proofs.Elements.{up_to_more}
use Rattle.tick_machine.specs.Layout.{layout_of}
use Rattle.tick_machine.specs.Scene.{scene_of}
use Rattle.machine_loops.specs.RuleTests.{HoldKeeps}
use Rattle.machine_loops.proofs.rules.holds_keep.Goals as goal

pub loop-tank-preserved : goal.loop-tank-preserved
loop-tank-preserved c = up_to_more (HoldKeeps (layout_of c.args.line.now)
    (scene_of c.args.frame.now)) c.loop-tank.tank c.loop-tank.invariant (c.hold_keeps_at.ensures.0 (search rules))
