-- Climbs that serve again: what they found holds under later caps, and below decisions on hoists.
use Rattle.std.specs.Prelude.{◌≡◌, ℕ, ◌≤◌, ◌<◌, ◌⊎◌, List, ◌++◌, length, get_or, option_to_list, Some, IsSome, IfSome, All}
use Rattle.hoist_base.specs.LineData.{LineData}
use Rattle.longest_path.specs.System.{Refutes, IsLeastSolution}
use Rattle.cycle_walk.specs.Closed.{WalkData, IsClosedWalk}
use Rattle.cycle_walk.specs.Climb.{climbed}
use Rattle.cycle_walk.specs.declared.climbing.Climbed.TheVariants.{Floor}
use Rattle.choice_tree.specs.declared.question.Question.{Question}
use Rattle.choice_tree.specs.declared.question.Question.TheVariants.{Assign, TankOrder, HoistOrder, Choose}
use Rattle.choice_tree.specs.declared.question.Decision.{Decision}
use Rattle.path_constraints.specs.Tanks.{decision_at}
use Rattle.path_constraints.specs.Places.{system_below}
use Rattle.path_constraints.specs.Proves.{RefuteBelow}
use Rattle.path_constraints.specs.Ticks.{AreTicks}
use Rattle.node_expand.specs.Expansion.{named, IsShut}
use Rattle.node_expand.specs.Shown.{IsShortWalk}
use Rattle.node_expand.specs.declared.least_period.LeastPeriod.{LeastPeriod}
use Rattle.node_expand.specs.declared.least_period.PathClimb.{PathClimb}
use Rattle.node_expand.specs.declared.least_period.PathClimb.TheVariants.{Shut, Least}
use Rattle.node_expand.specs.declared.climbs.Climb.{Climb}
use Rattle.node_expand.specs.declared.climbs.Climbs.{Climbs}

-- the question asks which hoist does a move
abbrev pub IsAssign : Question → Type 0
IsAssign (Assign m) = Unit {0}
IsAssign (TankOrder a b q) = ⊥
IsAssign (HoistOrder a b q) = ⊥
IsAssign (Choose v) = ⊥

-- from place n on a path has decisions on hoists alone
abbrev pub EndsInHoists : List Decision → ℕ → Type 0
EndsInHoists path n = (i : ℕ) → n ≤ i → i < length path → IsAssign (decision_at path i).question

-- the climb over the path's system ends at this period with this walk, whatever cap above the period it is under; the
-- walk refutes every smaller period, and these are the least ticks at the period
pub record IsLeastPeriodOf (l : LineData) (path : List Decision) (least : LeastPeriod) : Type 0 where
  pub walk : WalkData
  pub some : 1 ≤ least.period
  pub walk_closed : IsClosedWalk (system_below l path) walk
  pub gives : (t : ℕ) → 1 ≤ t → t < least.period → Refutes walk.w walk.q t
  pub climb : (cap : ℕ) → least.period < cap → climbed (system_below l path) cap ≡ Floor least.period (Some walk)
  pub names : least.low ≡ named l path walk
  pub solution : IsLeastSolution (system_below l path) least.period least.ticks
  pub ticks : AreTicks l least.ticks

-- short walks refute every period below the cap, or the least feasible period is below the cap
abbrev pub IsPathClimb : LineData → List Decision → ℕ → PathClimb → Type 0
IsPathClimb l path cap (Shut low high) =
    IsShut l path cap low high × RefuteBelow l path (option_to_list low ++ option_to_list high) cap
    × (IsSome low ⊎ IsSome high) × IfSome low IsShortWalk × IfSome high IsShortWalk
IsPathClimb l path cap (Least least) = IsLeastPeriodOf l path least × (least.period < cap)

-- each climb found the least period of its path, and they are at most 512
pub record AreClimbs (l : LineData) (climbs : Climbs) : Type 0 where
  pub each : All (λ (climb : Climb). IsLeastPeriodOf l climb.path.items climb.least) climbs.kept.items
  pub few : length climbs.kept.items ≤ 512
  pub next : climbs.next < 512
  pub found : climbs.found ≤ 512

-- climb k is that of this path, and its period is below the cap
abbrev pub IsClimbOf : List Decision → ℕ → Climbs → ℕ → Type 0
IsClimbOf path cap climbs k =
    (k < length climbs.kept.items)
    × ((climb : Climb) → climb ≡ get_or climbs.kept.items k climb → (climb.path.items ≡ path) × (climb.least.period < cap))
