-- What is known of the answer to a line under a budget.
use Rattle.std.specs.Prelude.{ℕ, ◌≤◌}
use Rattle.hoist_base.specs.LineData.{LineData}
use Rattle.hoist_base.specs.Valid.{IsLine}
use Rattle.choice_tree.specs.Trees.{IsTree}
use Rattle.answer_text.specs.declared.answer.Answer.{Answer}
use Rattle.answer_text.specs.Answers.{IsWritable}
use Rattle.cert_checker.specs.declared.reason.Reason.{Reason}
use Rattle.cert_checker.specs.Reasons.{HasReason}
use Rattle.cert_checker.specs.Rules.{KeepsRules}
use Rattle.solve_line.specs.AnswerOf.{IsSolution}
use Rattle.solve_line.specs.Claims.{KeepsClaim}

-- of a valid line it is the answer of the search, keeps what its verdict claims, has a text and no more splits than the
-- budget, and the checker has no reason to reject it
pub record IsSolved (l : LineData) (budget : ℕ) (a : Answer) : Type 0 where
  pub valid : IsLine l
  pub solution : IsSolution l budget a
  pub claim : KeepsClaim l budget a
  pub writable : IsWritable l a
  pub tree : IsTree a.tree
  pub spent : a.splits ≤ budget
  pub accepted : KeepsRules l a
  pub no_reason : (r : Reason) → HasReason l a r → ⊥
