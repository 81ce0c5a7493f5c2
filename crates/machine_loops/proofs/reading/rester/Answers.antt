use Rattle.std.proofs.Common.{sym, subst, ◌∙◌}
use Rattle.machine_loops.specs.Reading.{IsRester}
use Rattle.machine_loops.proofs.reading.rester.Goals as goal

pub returns-in-Some : goal.returns-in-Some
returns-in-Some c = subst (λ o. IsRester o c.resting_carrier.result) (sym c.in-Some.is ∙ c.hold_at.ensures) c.resting_carrier.ensures
