use Rattle.std.proofs.Common.{ℕ, ◌+◌, get_or, sym, subst}
use Rattle.tick_machine.specs.declared.frame.Frame.{Frame}
use Rattle.tick_machine.specs.Layout.{layout_of}
use Rattle.tick_machine.specs.Scene.{Scene, scene_of, IsSized, IsSizedOrder}
use Rattle.tick_machine.specs.Rules.{IsBelow, IsFrame}
use Rattle.tick_machine.proofs.EmptyScenes.{empty_below}
use Rattle.run_rows.proofs.machines.follow.Goals as goal

pub loop-tick-init : goal.loop-tick-init
loop-tick-init c = record {
  frame = c.in_ok-frame.ensures.frame;
  next = c.in_ok-next.ensures.frame.sized;
  order = subst (λ (n : ℕ). IsSizedOrder n c.in_ok-order.order) c.hoists-hoists.ensures.value c.in_ok-order.ensures;
  below = subst (λ (f : Scene). IsBelow 1 f) (sym c.in_ok-frame.ensures.scene) (empty_below (layout_of c.args.line.now) (λ h. get_or c.args.at.now h 0));
}

pub loop-tick-preserved : goal.loop-tick-preserved
loop-tick-preserved c =
    let line = c.args.line.now in
    let n = c.loop-tick.tick + 1 in
    record {
      frame = subst (λ (f : Frame). IsFrame line f) (sym c.swap.ensures.x_after) c.in-Ok.ensures.frame;
      next = subst (λ (f : Frame). IsSized line f) (sym c.swap.ensures.y_after) c.loop-tick.invariant.frame.sized;
      order = subst (λ (m : ℕ). IsSizedOrder m c.set_order.new.order) c.hoists-hoists.ensures.value c.set_order.ensures;
      below = subst (λ (f : Frame). IsBelow (n + 1) (scene_of f)) (sym c.swap.ensures.x_after) (c.in-Ok.ensures.grows n c.loop-tick.invariant.below);
    }
