-- Paths that leave nothing open.
use Rattle.std.specs.Prelude.{ℕ, List, IsSome}
use Rattle.hoist_base.specs.LineData.{LineData, IsMove, IsVisit}
use Rattle.choice_tree.specs.declared.question.Decision.{Decision}
use Rattle.path_constraints.specs.Tanks.{tank_below}
use Rattle.path_constraints.specs.Hoists.{hoist_below}

-- each visit has one tank below the path
abbrev pub HasTanks : LineData → List Decision → Type 0
HasTanks l path = (c k : ℕ) → IsVisit l c k → IsSome (tank_below l path c k)

-- each move has its hoist
abbrev pub HasHoists : LineData → List Decision → Type 0
HasHoists l path = (c k : ℕ) → IsMove l c k → IsSome (hoist_below l path c k)
