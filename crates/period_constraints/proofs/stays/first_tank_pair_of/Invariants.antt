use Rattle.std.proofs.Common.{ℕ, ◌<◌, ℤ}
use Rattle.path_constraints.specs.Ticks.{tick_at}
use Rattle.period_constraints.specs.Routed.{HoldOneTank}
use Rattle.period_constraints.proofs.stays.first_tank_pair_of.Given as goal

-- none so far shares the tank
abbrev pub invariant-loop-second : goal.invariant-loop-second
invariant-loop-second l = (j : ℕ) (q : ℤ) → j < l.second → HoldOneTank l.line l.tanks (tick_at l.ticks) l.period l.first j q → ⊥
