use Rattle.std.proofs.Common.{◌≡◌, ◌++◌, flat_map}
use Rattle.tick_machine.specs.Scene.{IsSizedOrder}
use Rattle.track_log.specs.Logs.{tick_text}
use Rattle.track_log.specs.Recording.{lines_from, OrdersThere}
use Rattle.track_log.proofs.recording.push_lines.Given as goal

abbrev pub invariant-loop-t : goal.invariant-loop-t
invariant-loop-t g l = record {
  text : l.text.items ≡ l.fn.text.items ++ flat_map tick_text (lines_from l.hoists (g.D.Driver.command l.driver) l.first l.t);
  there : OrdersThere l.hoists (g.D.Driver.command l.driver) l.first l.t;
  order : IsSizedOrder l.hoists l.order;
}
