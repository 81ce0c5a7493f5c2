use Rattle.period_constraints.specs.Lookups.{AreRides}
use Rattle.period_constraints.proofs.lookup.push_rides.Given as goal

abbrev pub invariant-loop-hoist : goal.invariant-loop-hoist
invariant-loop-hoist l = AreRides l.line l.rides.items
