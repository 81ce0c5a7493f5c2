use Rattle.period_constraints.specs.Lookups.{AreRides}
use Rattle.period_constraints.proofs.lookup.push_step.Given as goal

abbrev pub invariant-loop-pair : goal.invariant-loop-pair
invariant-loop-pair l = AreRides l.line l.rides.items
