use Rattle.std.proofs.Common.{ℕ, ◌+◌, sym, subst, arith}
use Rattle.std.proofs.lemmas.List.{append-nil}
use Rattle.tick_machine.specs.Scene.{IsSizedOrder}
use Rattle.track_log.specs.Reading.{line_of}
use Rattle.track_log.proofs.Recorded.{line_is, command_is, one_line, one_there}
use Rattle.track_log.proofs.recording.push_lines.Goals as goal

pub loop-t-init : goal.loop-t-init
loop-t-init g c = record {
  text = sym (append-nil c.args.text.now.items);
  there = λ t from below. absurd (omega (arith, from, below));
  order = c.in_ok-order.ensures;
}

pub loop-t-preserved : goal.loop-t-preserved
loop-t-preserved g c =
    let hoists = c.args.hoists in
    let first = c.args.first in
    let t = c.loop-t.t in
    let command = g.D.Driver.command c.args.driver.now in
    let order = c.order.new.into in
    let sized : IsSizedOrder hoists order = subst (λ (n : ℕ). IsSizedOrder n order) (sym c.requires.hoists) c.order.ensures.sized in
    record {
      text = one_line c.args.text.now.items c.loop-t.text.items c.push_tick.new.text.items hoists first t command (line_of order) c.loop-t.invariant.text
          c.in_ok-push_tick.ensures (line_is hoists order (command (first + t)) sized c.order.ensures.command);
      there = one_there hoists first t command c.loop-t.invariant.there (command_is hoists order (command (first + t)) sized c.order.ensures.command);
      order = sized;
    }
