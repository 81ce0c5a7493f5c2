use Rattle.std.proofs.Common.{ℕ, ◌<◌, ◌≤◌}
use Rattle.hoist_base.specs.LineData.{position_of}
use Rattle.hoist_base.specs.PartsData.{data_of}
use Rattle.hoist_base.proofs.valid.are_on_track.Given as goal

abbrev pub invariant-loop-i : goal.invariant-loop-i
invariant-loop-i l = (j : ℕ) → j < l.i → position_of (data_of l.parts) j ≤ l.parts.track
