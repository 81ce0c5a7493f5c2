-- That an answer that keeps the rules has no reason to be rejected.
use Rattle.hoist_base.specs.LineData.{LineData}
use Rattle.hoist_base.specs.Valid.{IsLine}
use Rattle.choice_tree.specs.Trees.{IsTree}
use Rattle.answer_text.specs.declared.answer.Answer.{Answer}
use Rattle.cert_checker.specs.declared.reason.Reason.{Reason}
use Rattle.cert_checker.specs.Reasons.{HasReason}
use Rattle.cert_checker.specs.Rules.{KeepsRules}

abbrev pub NoReasonWhereKept : Type 0
NoReasonWhereKept = (l : LineData) (a : Answer) (r : Reason) → IsLine l → IsTree a.tree → KeepsRules l a → HasReason l a r → ⊥
