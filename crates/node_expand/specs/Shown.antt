-- What an expansion shows of the periods below a path.
use Rattle.std.specs.Prelude.{◌≡◌, ℕ, ◌≤◌, ◌<◌, List, [], ◌∷◌, ◌++◌, length, option_to_list, IsSome, IfSome, ◌⊎◌}
use Rattle.hoist_base.specs.LineData.{LineData, IsMove}
use Rattle.choice_tree.specs.declared.question.Decision.{Decision}
use Rattle.choice_tree.specs.declared.constraint.Constraint.{Constraint}
use Rattle.path_constraints.specs.Tanks.{IsStuck}
use Rattle.path_constraints.specs.Questions.{Fits, child_count}
use Rattle.path_constraints.specs.Proves.{RefuteBelow}
use Rattle.node_expand.specs.declared.expanded.Expanded.{Expanded}
use Rattle.node_expand.specs.declared.expanded.Expanded.TheVariants.{Stuck, Closed, Solved, Split}
use Rattle.node_expand.specs.Plannable.{IsPlannable}

-- no hoist may reach the move; or closed walks refute every period below the cap; or below that of the solved path,
-- which can be planned; or below that of the split, whose question fits and has two to six children
abbrev pub Shows : LineData → List Decision → ℕ → Expanded → Type 0
Shows l path cap (Stuck m) = IsMove l m.carrier m.step × IsStuck l path m.carrier m.step
Shows l path cap (Closed low high) = RefuteBelow l path (option_to_list low ++ option_to_list high) cap
Shows l path cap (Solved solved low) = RefuteBelow l path (low ∷ []) solved.period × (solved.period < cap) × IsPlannable l solved
Shows l path cap (Split question children period low) =
    RefuteBelow l path (low ∷ []) period × (1 ≤ period) × (period < cap) × Fits l path question
    × (children ≡ child_count l path question) × (2 ≤ children) × (children ≤ 6)

-- a walk has at most as many constraints as a line has moves at most
abbrev pub IsShortWalk : List Constraint → Type 0
IsShortWalk walk = (1 ≤ length walk) × (length walk ≤ 124)

-- every walk of the expansion is short, and a closed path has one at least
abbrev pub HasShortWalks : Expanded → Type 0
HasShortWalks (Stuck m) = Unit {0}
HasShortWalks (Closed low high) = (IsSome low ⊎ IsSome high) × IfSome low IsShortWalk × IfSome high IsShortWalk
HasShortWalks (Solved solved low) = IsShortWalk low
HasShortWalks (Split question children period low) = IsShortWalk low
