use Rattle.tick_machine.specs.Scene.{IsSizedOrder}
use Rattle.run_rows.proofs.machines.set_order.Given as goal

abbrev pub invariant-loop-at : goal.invariant-loop-at
invariant-loop-at l = IsSizedOrder l.hoists l.order
