use Rattle.path_constraints.specs.Places.{Rewrites}
use Rattle.path_constraints.proofs.BaseLemmas.{IsOfSteps}
use Rattle.path_constraints.proofs.systems.write_carrier.Given as goal

abbrev pub invariant-loop-step : goal.invariant-loop-step
invariant-loop-step l = Rewrites l.line l.path (IsOfSteps l.carrier l.step) l.fn.s l.s
