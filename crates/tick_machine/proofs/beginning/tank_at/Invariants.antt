use Rattle.std.proofs.Common.{◌≡◌, None}
use Rattle.tick_machine.specs.Points as points
use Rattle.tick_machine.specs.Layout.{layout_of}
use Rattle.tick_machine.proofs.beginning.tank_at.Given as goal

abbrev pub invariant-loop-i : goal.invariant-loop-i
invariant-loop-i l = points.tank_among (layout_of l.line) l.at l.i ≡ None
