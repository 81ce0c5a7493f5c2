use Rattle.std.proofs.Common.{ℕ, ◌<◌, ℤ}
use Rattle.period_constraints.specs.Starts.{AreMeeting}
use Rattle.period_constraints.proofs.starts.first_meeting.Given as goal

-- none so far clashes with a later one
abbrev pub invariant-loop-first : goal.invariant-loop-first
invariant-loop-first l = (i j : ℕ) (q : ℤ) → i < l.first → AreMeeting l.line l.starts l.period i j q → ⊥
