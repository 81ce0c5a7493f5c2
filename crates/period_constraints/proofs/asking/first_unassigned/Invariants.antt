use Rattle.std.proofs.Common.{ℕ, ◌<◌}
use Rattle.period_constraints.specs.Routed.{IsUnassigned}
use Rattle.period_constraints.proofs.asking.first_unassigned.Given as goal

-- none so far is
abbrev pub invariant-loop-number : goal.invariant-loop-number
invariant-loop-number l = (i : ℕ) → i < l.number → IsUnassigned l.line l.tanks l.assigned i → ⊥
