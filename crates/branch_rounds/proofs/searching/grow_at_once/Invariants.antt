use Rattle.std.proofs.Common.{◌≡◌, ℕ, ◌+◌, ◌-◌, ◌*◌, ◌≤◌, length}
use Rattle.branch_rounds.specs.Grown.{IsReached}
use Rattle.branch_rounds.specs.Kept.{IsKept}
use Rattle.branch_rounds.proofs.searching.grow_at_once.Given as goal

abbrev pub invariant-loop-state : goal.invariant-loop-state
invariant-loop-state g l = record {
  workers : l.workers ≡ l.line;
  kept : IsKept l.line l.state;
  splits : l.state.splits ≤ l.budget;
  reached : (n : ℕ) × IsReached l.line l.budget n l.state;
}

abbrev pub decreases-loop-state : goal.decreases-loop-state
decreases-loop-state g l = length l.state.frontier + 6 * (l.budget - l.state.splits)
