use Rattle.std.proofs.Common.{ℕ, ◌<◌}
use Rattle.path_constraints.specs.Tanks.{IsStuck}
use Rattle.node_expand.proofs.stuck.first_stuck_step.Given as goal

-- none of the moves so far is stuck
abbrev pub invariant-loop-step : goal.invariant-loop-step
invariant-loop-step l = (j : ℕ) → j < l.step → IsStuck l.line l.path l.carrier j → ⊥
