-- What `solve` prints.
use Rattle.std.specs.Prelude.{◌≡◌, ℕ, List}
use Rattle.hoist_base.specs.LineData.{LineData}
use Rattle.answer_text.specs.declared.answer.Verdict.{Verdict}
use Rattle.answer_text.specs.declared.answer.Verdict.TheVariants as verdicts
use Rattle.answer_text.specs.declared.answer.Answer.{Answer}
use Rattle.answer_text.specs.Answers.{answer_text, IsWritable}
use Rattle.solve_line.specs.AnswerOf.{IsSolution}
use Rattle.solve_line.specs.Claims.{KeepsClaim}
use Rattle.hoist_cli.specs.declared.status.Status.{Status}
use Rattle.hoist_cli.specs.declared.status.Status.TheVariants.{Done, Negative, Unfinished}
use Rattle.hoist_cli.specs.Reading.{Replies, Reading, AfterLine}

abbrev pub status_of : Verdict → Status
status_of verdicts.Optimal = Done
status_of verdicts.Nothing = Negative
status_of verdicts.Unfinished = Unfinished

-- the text of the answer of the search, which has a text and keeps its claim, with the status of its verdict
abbrev pub IsSolved : ℕ → LineData → Replies
IsSolved budget l status text =
    (a : Answer) × IsSolution l budget a × KeepsClaim l budget a × IsWritable l a × (status ≡ status_of a.verdict) × (text ≡ answer_text l a)

abbrev pub SolveReply : Reading → List ℕ → ℕ → Replies
SolveReply r file budget = AfterLine r file (IsSolved budget)
