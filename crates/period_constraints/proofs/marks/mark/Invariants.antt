use Rattle.std.proofs.Common.{take}
use Rattle.period_constraints.specs.Marks.{AreChoices, AreAssigned}
use Rattle.period_constraints.proofs.marks.mark.Given as goal

-- those of the decisions so far are noted
abbrev pub invariant-loop-decision : goal.invariant-loop-decision
invariant-loop-decision l = AreChoices l.line (take l.decision-index l.path) l.choices × AreAssigned l.line (take l.decision-index l.path) l.assigned
