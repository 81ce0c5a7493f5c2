use Rattle.std.proofs.Common.{◌≡◌, None}
use Rattle.tick_machine.specs.Points as points
use Rattle.tick_machine.specs.Step as steps
use Rattle.tick_machine.specs.Scene.{scene_of}
use Rattle.tick_machine.specs.Layout.{layout_of}
use Rattle.tick_machine.proofs.limits.first_near.Given as goal

abbrev pub invariant-loop-h : goal.invariant-loop-h
invariant-loop-h l = steps.first l.h (points.near (layout_of l.line) (scene_of l.frame)) ≡ None
