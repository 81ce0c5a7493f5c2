use Rattle.std.proofs.Common.{◌≡◌, None}
use Rattle.tick_machine.specs.Points as points
use Rattle.tick_machine.specs.Step as steps
use Rattle.tick_machine.specs.Scene.{scene_of, command_of, IsSized}
use Rattle.tick_machine.specs.Layout.{layout_of}
use Rattle.tick_machine.specs.Fits.{Fits}
use Rattle.tick_machine.proofs.beginning.begin_all.Given as goal

abbrev pub invariant-loop-h : goal.invariant-loop-h
invariant-loop-h l = record {
  scene : scene_of l.frame ≡ steps.each (points.begin_move (layout_of l.line) (command_of l.order)) l.h (scene_of l.fn.frame);
  none : steps.first l.h (λ h. points.no_begin (layout_of l.line) (command_of l.order) h
      (steps.each (points.begin_move (layout_of l.line) (command_of l.order)) h (scene_of l.fn.frame))) ≡ None;
  fits : Fits (layout_of l.line) 2000 (scene_of l.frame);
  sized : IsSized l.line l.frame;
}
