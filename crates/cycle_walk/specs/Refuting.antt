-- The sums of a closed walk.
use Rattle.std.specs.Prelude.{◌≤◌, unsigned_abs}
use Rattle.cycle_walk.specs.declared.sums.Sums.{Sums}
use Rattle.cycle_walk.specs.Closed.{WalkData}

abbrev pub sums_of : WalkData → Sums
sums_of walk = record { w = walk.w; q = walk.q }

-- sums that 64 bits hold at each period, as those of a million of the longest constraints
abbrev pub AreSmall : Sums → Type 0
AreSmall sums = (unsigned_abs sums.w ≤ 10000000000000) × (unsigned_abs sums.q ≤ 10000000000000)
