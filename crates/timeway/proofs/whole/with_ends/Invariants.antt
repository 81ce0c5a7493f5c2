use Rattle.std.proofs.Common.{◌≡◌, map}
use Rattle.std.specs.List.{range_with_len}
use Rattle.markup.specs.Forms.{holding_all}
use Rattle.timeway.specs.Diagram.{end_line}
use Rattle.timeway.proofs.whole.with_ends.Given as goal

abbrev pub invariant-loop-i : goal.invariant-loop-i
invariant-loop-i l = l.plot ≡ holding_all l.fn.plot (map (end_line l.line l.period) (range_with_len 0 l.i))
