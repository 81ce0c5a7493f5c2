use Rattle.std.proofs.Common.{Some, refl, ap}
use Rattle.tick_machine.specs.declared.frame.Hold.{Hold}
use Rattle.tick_machine.specs.declared.frame.Rest.TheVariants.{Resting}
use Rattle.tick_machine.proofs.PartwayTick.{hold_is}
use Rattle.machine_loops.proofs.reading.resting_carrier.Goals as goal

pub returns-in-Resting : goal.returns-in-Resting
returns-in-Resting c = (
  c.args.x.stage,
  c.in-Resting.field-0,
  ap (λ (w : Hold). Some w) (hold_is c.args.x c.args.x.carrier c.args.x.stage (Resting c.in-Resting.field-0) refl refl c.in-Resting.is),
)
