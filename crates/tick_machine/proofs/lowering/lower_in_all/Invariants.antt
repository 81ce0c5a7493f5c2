use Rattle.std.proofs.Common.{◌≡◌, None}
use Rattle.tick_machine.specs.Points as points
use Rattle.tick_machine.specs.Step as steps
use Rattle.tick_machine.specs.Scene.{scene_of, IsSized}
use Rattle.tick_machine.specs.Layout.{layout_of}
use Rattle.tick_machine.specs.Fits.{Fits}
use Rattle.tick_machine.proofs.lowering.lower_in_all.Given as goal

abbrev pub invariant-loop-h : goal.invariant-loop-h
invariant-loop-h l = record {
  scene : scene_of l.frame ≡ steps.each (points.lower_in (layout_of l.line)) l.h (scene_of l.fn.frame);
  none : steps.first l.h (λ h. points.no_lowering (layout_of l.line) h (steps.each (points.lower_in (layout_of l.line)) h (scene_of l.fn.frame))) ≡ None;
  fits : Fits (layout_of l.line) 2000 (scene_of l.frame);
  sized : IsSized l.line l.frame;
}
