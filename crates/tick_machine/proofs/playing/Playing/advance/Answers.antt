use Rattle.std.proofs.Common.{rules, ◌≡◌, ◌+◌, Option, Ok, sym, ap, subst, ◌∙◌}
use Rattle.tick_machine.specs.declared.breach.Breach.{Breach}
use Rattle.tick_machine.specs.declared.frame.Frame.{Frame}
use Rattle.tick_machine.specs.Layout.{layout_of}
use Rattle.tick_machine.specs.Scene.{scene_of, command_of, IsSized}
use Rattle.tick_machine.specs.Rules.{IsBelow, IsFrame}
use Rattle.tick_machine.specs.Play.{Reached, next_step, reached_or}
use Rattle.tick_machine.proofs.Lines.{layout_is}
use Rattle.tick_machine.proofs.Plays.{next_keeps, next_below}
use Rattle.tick_machine.proofs.playing.Playing.advance.Goals as goal

pub invariant_of-self-2 : goal.invariant_of-self-2
invariant_of-self-2 g c =
    let line = c.self.inside.line.now in
    let l = layout_of line in
    let t = c.self.inside.tick in
    let o = command_of c.order.new.into in
    let before : Reached = record { frame = scene_of c.self.inside.frame; log = c.args.log.now.items } in
    let after : Reached = record { frame = scene_of c.play_tick.new.new; log = c.play_tick.new.log.items } in
    let next : next_step l t o (Ok before) ≡ Ok after = c.in_ok-breach.ensures.step ∙ ap (λ (b : Option Breach). reached_or t b after) c.in_default.is in
    let rules_kept = next_keeps l t o before after (layout_is line c.in_ok-breach.ensures.valid) c.self.invariant.frame.rules next in
    record {
      frame = subst (λ (f : Frame). IsFrame line f) (sym c.swap.ensures.x_after) (record { sized = c.in_ok-breach.ensures.sized; rules = rules_kept });
      next = subst (λ (f : Frame). IsSized line f) (sym c.swap.ensures.y_after) c.self.invariant.frame.sized;
      order = search rules;
      below = subst (λ (f : Frame). IsBelow (t + 1 + 1) (scene_of f)) (sym c.swap.ensures.x_after)
          (next_below l t (t + 1) o before after c.self.invariant.below next);
    }
