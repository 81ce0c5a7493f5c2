use Rattle.std.proofs.Common.{◌≡◌, ◌<◌, ℕ, get_or, None}
use Rattle.std.specs.Option.{option_map}
use Rattle.tick_machine.specs.Points as points
use Rattle.tick_machine.specs.Scene.{IsSized}
use Rattle.tick_machine.proofs.motions.age_holds.Given as goal

abbrev pub invariant-loop-i : goal.invariant-loop-i
invariant-loop-i l = record {
  hold : (i : ℕ) → i < l.i
      → get_or l.new.hold.items i None ≡ option_map points.aged_hold (get_or l.old.hold.items i None);
  at : l.new.at.items ≡ l.fn.new.at.items;
  carry : l.new.carry.items ≡ l.fn.new.carry.items;
  sized : IsSized l.line l.new;
}
