use Rattle.std.proofs.Common.{◌≡◌, ◌<◌, ℕ, get_or, None}
use Rattle.std.specs.Option.{option_map}
use Rattle.tick_machine.specs.declared.order.Go.TheVariants.{Stay}
use Rattle.tick_machine.specs.Points as points
use Rattle.tick_machine.specs.Scene.{IsSized}
use Rattle.tick_machine.specs.Layout.{layout_of}
use Rattle.tick_machine.proofs.motions.move_hoists.Given as goal

abbrev pub invariant-loop-h : goal.invariant-loop-h
invariant-loop-h l = record {
  at : (h : ℕ) → h < l.h
      → get_or l.new.at.items h 0 ≡ points.moved_to (layout_of l.line) (get_or l.old.carry.items h None)
      (get_or l.order.go.items h Stay) (get_or l.old.at.items h 0);
  carry : (h : ℕ) → h < l.h
      → get_or l.new.carry.items h None ≡ option_map points.grown (get_or l.old.carry.items h None);
  hold : l.new.hold.items ≡ l.fn.new.hold.items;
  sized : IsSized l.line l.new;
}
