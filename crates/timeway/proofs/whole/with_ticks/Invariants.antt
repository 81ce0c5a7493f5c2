use Rattle.std.proofs.Common.{◌≡◌, map}
use Rattle.std.specs.List.{range_with_len}
use Rattle.markup.specs.Forms.{holding_all}
use Rattle.timeway.specs.Diagram.{tick_note}
use Rattle.timeway.proofs.whole.with_ticks.Given as goal

abbrev pub invariant-loop-i : goal.invariant-loop-i
invariant-loop-i l = l.whole ≡ holding_all l.fn.whole (map (tick_note l.line l.period) (range_with_len 0 l.i))
