-- The answer to a line under a budget.
use Rattle.std.specs.Prelude.{◌≡◌, ℕ, ◌≤◌}
use Rattle.hoist_base.specs.LineData.{LineData}
use Rattle.hoist_base.specs.Valid.{IsLine}
use Rattle.answer_text.specs.declared.answer.Answer.{Answer}
use Rattle.answer_text.specs.Answers.{IsWritable}
use Rattle.solve_line.specs.AnswerOf.{IsSolution}

-- a line and a budget have one answer, and so one text of it
abbrev pub SolutionIsOne : Type 0
SolutionIsOne =
    (l : LineData) (budget : ℕ) (a a' : Answer) → IsLine l → budget ≤ 20000 → IsSolution l budget a → IsSolution l budget a'
    → IsWritable l a → IsWritable l a' → a ≡ a'
