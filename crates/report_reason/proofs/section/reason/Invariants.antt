use Rattle.std.proofs.Common.{ℕ, ◌<◌, List}
use Rattle.choice_tree.specs.declared.question.Decision.{Decision}
use Rattle.choice_tree.specs.declared.constraint.Constraint.{Constraint}
use Rattle.report_reason.specs.Nearest.{Sets}
use Rattle.report_reason.proofs.section.reason.Given as goal

-- no node before this one sets the bound
abbrev pub invariant-loop-number : goal.invariant-loop-number
invariant-loop-number l =
    (m : ℕ) (path : List Decision) (walk : List Constraint) → m < l.number → Sets l.line l.answer m path walk → ⊥
