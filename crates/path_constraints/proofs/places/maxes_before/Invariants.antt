use Rattle.std.proofs.Common.{◌≡◌, ◌<◌}
use Rattle.path_constraints.specs.Places.{maxes_before}
use Rattle.path_constraints.proofs.places.maxes_before.Given as goal

abbrev pub invariant-loop-k : goal.invariant-loop-k
invariant-loop-k l = (l.count ≡ maxes_before l.line l.k) × (l.count < l.k)
