use Rattle.std.proofs.Common.{ℕ, ◌<◌, ℤ}
use Rattle.path_constraints.specs.Ticks.{tick_at}
use Rattle.period_constraints.specs.Routed.{HoldOneTank}
use Rattle.period_constraints.proofs.stays.first_tank_pair.Given as goal

-- none so far shares a tank with a later one
abbrev pub invariant-loop-first : goal.invariant-loop-first
invariant-loop-first l = (i j : ℕ) (q : ℤ) → i < l.first → HoldOneTank l.line l.tanks (tick_at l.ticks) l.period i j q → ⊥
