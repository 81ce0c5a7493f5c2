use Rattle.tick_machine.specs.Scene.{IsSizedOrder}
use Rattle.run_rows.proofs.machines.clear.Given as goal

abbrev pub invariant-loop-h : goal.invariant-loop-h
invariant-loop-h l = IsSizedOrder l.hoists l.order
