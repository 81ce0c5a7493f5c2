use Rattle.cycle_walk.proofs.ClosedLemmas.{closed_refutes, sums_small}
use Rattle.cycle_walk.proofs.LawLemmas.{least_kept_is_least}
use Rattle.cycle_walk.proofs.laws.refuting_laws.Goals as goal

pub returns : goal.returns
returns c = record { refuted = closed_refutes; small = sums_small; next = least_kept_is_least }
