-- What is printed of several lines, each for itself.
use Rattle.std.specs.Prelude.{◌≡◌, ℕ, List}
use Rattle.std.specs.List.{AllZip}
use Rattle.hoist_base.specs.LineData.{LineData}
use Rattle.answer_text.specs.declared.answer.Verdict.{Verdict}
use Rattle.answer_text.specs.declared.answer.Verdict.TheVariants.{Optimal, Nothing, Unfinished}
use Rattle.answer_text.specs.declared.answer.Answer.{Answer}
use Rattle.answer_text.specs.Answers.{answer_text, IsWritable}
use Rattle.solve_line.specs.AnswerOf.{IsSolution}
use Rattle.solve_line.specs.Claims.{KeepsClaim}
use Rattle.batch_lines.specs.declared.single.Single.{Single}

-- the status with which the answer to a line is printed
abbrev pub status_of : Verdict → ℕ
status_of Optimal = 0
status_of Nothing = 1
status_of Unfinished = 3

-- the text of the answer of the search of the line under the budget, which keeps what its verdict claims, with the
-- status of that verdict
pub record IsSingle (l : LineData) (budget : ℕ) (single : Single) : Type 0 where
  pub answer : Answer
  pub solution : IsSolution l budget answer
  pub claim : KeepsClaim l budget answer
  pub writable : IsWritable l answer
  pub status : single.status ≡ status_of answer.verdict
  pub text : single.text ≡ answer_text l answer

-- one for each line, in the order of the lines
abbrev pub AreSingles : List LineData → ℕ → List Single → Type 0
AreSingles lines budget singles = AllZip (λ l single. IsSingle l budget single) lines singles
