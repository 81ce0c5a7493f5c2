use Rattle.std.proofs.Common.{◌≡◌, None}
use Rattle.tick_machine.specs.Points as points
use Rattle.tick_machine.specs.Step as steps
use Rattle.tick_machine.specs.Scene.{scene_of}
use Rattle.tick_machine.specs.Layout.{layout_of}
use Rattle.tick_machine.proofs.limits.first_late.Given as goal

abbrev pub invariant-loop-i : goal.invariant-loop-i
invariant-loop-i l = steps.first l.i (points.late (layout_of l.line) (scene_of l.frame)) ≡ None
