use Rattle.std.proofs.Common.{◌≡◌, None}
use Rattle.tick_machine.specs.Points as points
use Rattle.tick_machine.specs.Step as steps
use Rattle.tick_machine.specs.Scene.{scene_of, command_of}
use Rattle.tick_machine.specs.Layout.{layout_of}
use Rattle.tick_machine.specs.Fits.{Fits}
use Rattle.tick_machine.proofs.motions.first_busy.Given as goal

abbrev pub invariant-loop-h : goal.invariant-loop-h
invariant-loop-h l = record {
  none : steps.first l.h (points.busy (layout_of l.line) (command_of l.order) (scene_of l.frame)) ≡ None;
  fits : Fits (layout_of l.line) 1999 (scene_of l.frame);
}
