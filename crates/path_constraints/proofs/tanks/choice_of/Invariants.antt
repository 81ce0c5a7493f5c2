use Rattle.std.proofs.Common.{◌≡◌, drop}
use Rattle.path_constraints.specs.Tanks.{choice_of}
use Rattle.path_constraints.proofs.tanks.choice_of.Given as goal

-- no decision so far is the visit's
abbrev pub invariant-loop-decision : goal.invariant-loop-decision
invariant-loop-decision l =
    choice_of (drop l.decision-index l.path) l.visit.carrier l.visit.stage ≡ choice_of l.path l.visit.carrier l.visit.stage
