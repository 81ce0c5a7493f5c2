use Rattle.std.proofs.Common.{◌≡◌, sym, ap, length, arith}
use Rattle.hoist_base.specs.LineData.{position_of}
use Rattle.tick_machine.specs.Layout.{layout_of}
use Rattle.tick_machine.proofs.Lines.{layout_is}
use Rattle.tick_machine.proofs.Tanks.{tank_at_is}
use Rattle.tick_machine.proofs.beginning.tank_at.Goals as goal

pub returns-then-at-clause-value : goal.returns-then-at-clause-value
returns-then-at-clause-value c =
    let l = c.args.line.now in
    let here : position_of l c.loop-i.i ≡ c.args.at = cc in
    let count : length c.tanks.result.now ≡ length l.tanks = ap length c.tanks.ensures.value in
    sym (tank_at_is (layout_of l) c.args.at (length l.tanks) c.loop-i.i (layout_is l c.tanks.ensures.valid) (omega arith) (omega arith) here)
