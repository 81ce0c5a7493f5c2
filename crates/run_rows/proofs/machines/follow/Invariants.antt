use Rattle.std.proofs.Common.{◌+◌}
use Rattle.tick_machine.specs.Scene.{scene_of, IsSized, IsSizedOrder}
use Rattle.tick_machine.specs.Rules.{IsBelow, IsFrame}
use Rattle.run_rows.proofs.machines.follow.Given as goal

abbrev pub invariant-loop-tick : goal.invariant-loop-tick
invariant-loop-tick l = record {
  frame : IsFrame l.line l.frame;
  next : IsSized l.line l.next;
  order : IsSizedOrder l.line.hoists l.order;
  below : IsBelow (l.tick + 1) (scene_of l.frame);
}
