-- The greatest margin that constraints leave.
use Rattle.std.specs.Prelude.{◌≡◌, ℕ, ◌+◌, ◌≤◌, List, Some}
use Rattle.hoist_base.specs.LineData.{LineData}
use Rattle.longest_path.specs.declared.systems.Arc.{Arc}
use Rattle.longest_path.specs.System.{IsLeastSolution, Refutes}
use Rattle.cycle_walk.specs.Closed.{IsFeasible, closed_walk_of, IsClosedWalk}
use Rattle.window_margin.specs.declared.limits.Limit.{Limit}
use Rattle.window_margin.specs.Arcs.{margin_system}

-- some ticks meet the constraints at a margin
abbrev pub Allows : LineData → List Arc → ℕ → Type 0
Allows l arcs margin = IsFeasible (margin_system l arcs) (margin + 1)

-- they allow a margin of 0, and none near the period
pub record AreBounded (l : LineData) (period : ℕ) (arcs : List Arc) : Type 0 where
  pub none : Allows l arcs 0
  pub below : (margin : ℕ) → Allows l arcs margin → margin + 3 ≤ period

-- this is the greatest that they allow
pub record IsGreatest (l : LineData) (period : ℕ) (arcs : List Arc) (margin : ℕ) : Type 0 where
  pub allowed : Allows l arcs margin
  pub none_more : (more : ℕ) → Allows l arcs more → more ≤ margin
  pub below : margin + 3 ≤ period

pub record IsLimit (l : LineData) (period : ℕ) (arcs : List Arc) (limit : Limit) : Type 0 where
  pub greatest : IsGreatest l period arcs limit.ticks
  pub starts : IsLeastSolution (margin_system l arcs) (limit.ticks + 1) limit.starts.items
  pub walk : closed_walk_of (margin_system l arcs) (limit.ticks + 2) ≡ Some limit.walk
  pub closed : IsClosedWalk (margin_system l arcs) limit.walk
  pub refutes : Refutes limit.walk.w limit.walk.q (limit.ticks + 2)
