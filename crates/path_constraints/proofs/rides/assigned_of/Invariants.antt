use Rattle.std.proofs.Common.{◌≡◌, drop}
use Rattle.path_constraints.specs.Hoists.{assigned_of}
use Rattle.path_constraints.proofs.rides.assigned_of.Given as goal

-- no decision so far is the move's
abbrev pub invariant-loop-decision : goal.invariant-loop-decision
invariant-loop-decision l =
    assigned_of (drop l.decision-index l.path) l.named.carrier l.named.step ≡ assigned_of l.path l.named.carrier l.named.step
