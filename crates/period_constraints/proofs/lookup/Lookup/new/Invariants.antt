use Rattle.period_constraints.specs.Lookups.{AreRides}
use Rattle.period_constraints.proofs.lookup.Lookup.new.Given as goal

abbrev pub invariant-loop-step : goal.invariant-loop-step
invariant-loop-step l = AreRides l.line l.rides.items
