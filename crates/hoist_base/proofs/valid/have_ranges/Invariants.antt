use Rattle.std.proofs.Common.{ℕ, ◌<◌}
use Rattle.hoist_base.specs.PartsData.{data_of}
use Rattle.hoist_base.specs.Ranges.{HasRangesAt}
use Rattle.hoist_base.proofs.valid.have_ranges.Given as goal

abbrev pub invariant-loop-k : goal.invariant-loop-k
invariant-loop-k l = (j : ℕ) → j < l.k → HasRangesAt (data_of l.parts) j
