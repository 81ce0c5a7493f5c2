use Rattle.std.proofs.Common.{ℕ, ◌<◌}
use Rattle.hoist_base.specs.LineData.{IsStep}
use Rattle.path_constraints.specs.Tanks.{IsStuck}
use Rattle.node_expand.proofs.stuck.first_stuck.Given as goal

-- none of the moves of the carriers so far is stuck
abbrev pub invariant-loop-carrier : goal.invariant-loop-carrier
invariant-loop-carrier l = (c k : ℕ) → c < l.carrier → IsStep l.line k → IsStuck l.line l.path c k → ⊥
