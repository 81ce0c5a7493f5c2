use Rattle.std.proofs.Common.{◌+◌}
use Rattle.tick_machine.specs.Scene.{scene_of, IsSized}
use Rattle.tick_machine.specs.Rules.{IsBelow, IsFrame}
use Rattle.track_log.specs.Logs.{most_ticks}
use Rattle.track_log.specs.Reading.{lines_at}
use Rattle.track_log.proofs.Walked.{Walked}
use Rattle.track_log.proofs.walk.play.Given as goal

abbrev pub invariant-loop-tick : goal.invariant-loop-tick
invariant-loop-tick l = record {
  walked : Walked l.line l.at (lines_at l.line 0 most_ticks l.bytes) l.tick l.rest (scene_of l.frame);
  frame : IsFrame l.line l.frame;
  next : IsSized l.line l.next;
  below : IsBelow (l.tick + 1) (scene_of l.frame);
}
