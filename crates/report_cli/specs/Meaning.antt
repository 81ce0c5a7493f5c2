-- What the statuses say of lines, answers and timetables.
use Rattle.std.specs.Prelude.{◌≡◌, ℕ, List, Option, ⊤}
use Rattle.hoist_base.specs.LineData.{LineData}
use Rattle.line_model.specs.Legal.{IsLegal, IsLeast}
use Rattle.timetable.specs.TimetableData.{timetable_of}
use Rattle.outside.specs.Count.{Rose}
use Rattle.outside.specs.Sink.{appended}
use Rattle.answer_text.specs.declared.answer.Verdict.TheVariants.{Optimal}
use Rattle.answer_text.specs.declared.answer.Answer.{Answer}
use Rattle.hoist_cli.specs.declared.status.Status.{Status}
use Rattle.hoist_cli.specs.declared.status.Status.TheVariants as statuses
use Rattle.hoist_cli.specs.Reading.{Reading}
use Rattle.hoist_cli.specs.Meaning.{IsAnswerRun}
use Rattle.report_words.specs.declared.words.Form.{Form}
use Rattle.report_words.specs.Request.{AsksReport, AskNoReport}
use Rattle.report_cli.specs.Drawn.{IsDrawn, IsUndrawn}

-- the words ask for the answer of a file to the line of another, the answer is accepted, its timetable is legal, and
-- has the least period where the verdict says so; and the text of both in the form that is asked for was printed
pub record IsReported (r : Reading) (words : List (List ℕ)) (old new : Option (List ℕ)) : Type 0 where
  pub form : Form
  pub line : LineData
  pub answer : Answer
  pub text : List ℕ
  pub run : IsAnswerRun (AsksReport words form) r line answer
  pub drawn : IsDrawn form line answer text
  pub legal : IsLegal line (timetable_of drawn.timetable)
  pub least : answer.verdict ≡ Optimal → IsLeast line drawn.timetable.period
  pub printed : new ≡ appended old text

-- the words ask for the same, the answer is rejected or has no timetable, and why was printed
pub record IsUnreported (r : Reading) (words : List (List ℕ)) (old new : Option (List ℕ)) : Type 0 where
  pub form : Form
  pub line : LineData
  pub answer : Answer
  pub text : List ℕ
  pub run : IsAnswerRun (AsksReport words form) r line answer
  pub undrawn : IsUndrawn line answer text
  pub printed : new ≡ appended old text

-- what each status of a printed reply says
abbrev pub Means : Status → Reading → List (List ℕ) → Option (List ℕ) → Option (List ℕ) → Type 0
Means statuses.Done r words old new = IsReported r words old new
Means statuses.Negative r words old new = IsUnreported r words old new
Means statuses.Words r words old new = AskNoReport words
Means statuses.Unfinished r words old new = ⊥
Means statuses.Line r words old new = ⊤
Means statuses.Broken r words old new = ⊤
Means statuses.Read r words old new = Rose r.before r.after
Means statuses.Write r words old new = ⊥
Means statuses.Long r words old new = ⊤
Means statuses.Memory r words old new = ⊥
