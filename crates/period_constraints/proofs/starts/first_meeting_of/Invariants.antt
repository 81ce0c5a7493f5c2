use Rattle.std.proofs.Common.{ℕ, ◌<◌, ℤ}
use Rattle.period_constraints.specs.Starts.{AreMeeting}
use Rattle.period_constraints.proofs.starts.first_meeting_of.Given as goal

-- none so far clashes with it
abbrev pub invariant-loop-second : goal.invariant-loop-second
invariant-loop-second l = (j : ℕ) (q : ℤ) → j < l.second → AreMeeting l.line l.starts l.period l.first j q → ⊥
