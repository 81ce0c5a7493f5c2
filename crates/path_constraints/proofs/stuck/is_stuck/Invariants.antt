use Rattle.std.proofs.Common.{ℕ, ◌<◌}
use Rattle.path_constraints.specs.Tanks.{MayReach}
use Rattle.path_constraints.proofs.stuck.is_stuck.Given as goal

-- none of the hoists so far may reach the move
abbrev pub invariant-loop-h : goal.invariant-loop-h
invariant-loop-h l = (g : ℕ) → g < l.h → MayReach l.line l.path g l.fn.m.carrier l.fn.m.step → ⊥
