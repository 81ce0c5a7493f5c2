use Rattle.std.proofs.Common.{◌≡◌}
use Rattle.tick_machine.specs.Points as points
use Rattle.tick_machine.specs.Step as steps
use Rattle.tick_machine.specs.Scene.{scene_of, IsSized}
use Rattle.tick_machine.specs.Layout.{layout_of}
use Rattle.tick_machine.specs.Fits.{Fits}
use Rattle.tick_machine.proofs.setting.lift_out_all.Given as goal

abbrev pub invariant-loop-h : goal.invariant-loop-h
invariant-loop-h l = record {
  scene : scene_of l.frame ≡ steps.each (points.lift_out (layout_of l.line)) l.h (scene_of l.fn.frame);
  fits : Fits (layout_of l.line) 2000 (scene_of l.frame);
  sized : IsSized l.line l.frame;
  next : l.frame.next ≡ l.fn.frame.next;
}
