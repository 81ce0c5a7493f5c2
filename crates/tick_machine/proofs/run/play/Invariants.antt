use Rattle.std.proofs.Common.{◌≡◌, ◌-◌, [], Ok}
use Rattle.tick_machine.specs.Layout.{layout_of}
use Rattle.tick_machine.specs.Play.{empty_scene}
use Rattle.tick_machine.specs.Playing.{reached}
use Rattle.tick_machine.proofs.Plays.{done}
use Rattle.tick_machine.proofs.run.play.Given as goal

abbrev pub invariant-loop-tick : goal.invariant-loop-tick
invariant-loop-tick g l = record {
  reached : done (layout_of l.line) (g.D.Driver.command l.driver) l.first (record {
    frame = empty_scene
        (layout_of l.line) (g.D.Driver.place l.driver);
    log = [];
  }) (l.tick - l.first)
      ≡ Ok (reached l.playing l.log.items);
  line : l.playing.line ≡ l.line;
  tick : l.playing.tick ≡ l.tick;
}
