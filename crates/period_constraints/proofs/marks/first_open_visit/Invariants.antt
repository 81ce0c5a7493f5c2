use Rattle.std.proofs.Common.{ℕ, ◌<◌}
use Rattle.period_constraints.specs.Marks.{IsOpenByChoices}
use Rattle.period_constraints.proofs.marks.first_open_visit.Given as goal

-- no visit so far is open
abbrev pub invariant-loop-number : goal.invariant-loop-number
invariant-loop-number l = (i : ℕ) → i < l.number → IsOpenByChoices l.line l.choices i → ⊥
