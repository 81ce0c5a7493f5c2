-- What the statuses say of lines, answers and timetables.
use Rattle.std.specs.Prelude.{◌≡◌, ℕ, List, Option, ⊤}
use Rattle.hoist_base.specs.LineData.{LineData}
use Rattle.outside.specs.Count.{Rose}
use Rattle.outside.specs.Sink.{appended}
use Rattle.answer_text.specs.declared.answer.Verdict.{Verdict}
use Rattle.answer_text.specs.declared.answer.Verdict.TheVariants.{Optimal, Nothing, Unfinished}
use Rattle.answer_text.specs.declared.answer.Answer.{Answer}
use Rattle.hoist_cli.specs.declared.status.Status.{Status}
use Rattle.hoist_cli.specs.declared.status.Status.TheVariants as statuses
use Rattle.hoist_cli.specs.Reading.{Reading, IsLineIn}
use Rattle.prove_words.specs.Request.{AsksProof, AskNoProof}
use Rattle.prove_cli.specs.Proved.{IsKept, ClaimBy}

-- the words ask for a proof for the line of a file, and the text of an answer to it was printed that keeps every rule,
-- has this verdict, and keeps what it claims by it
pub record IsProveRun (verdict : Verdict) (r : Reading) (words : List (List ℕ)) (old new : Option (List ℕ)) : Type 0 where
  pub file : List ℕ
  pub nodes : ℕ
  pub line : LineData
  pub answer : Answer
  pub text : List ℕ
  pub asks : AsksProof words file nodes
  pub is_line : IsLineIn r.files file line
  pub kept : IsKept line text answer
  pub is : answer.verdict ≡ verdict
  pub claim : ClaimBy line verdict answer
  pub printed : new ≡ appended old text

-- what each status of a printed reply says
abbrev pub Means : Status → Reading → List (List ℕ) → Option (List ℕ) → Option (List ℕ) → Type 0
Means statuses.Done r words old new = IsProveRun Optimal r words old new
Means statuses.Negative r words old new = IsProveRun Nothing r words old new
Means statuses.Words r words old new = AskNoProof words
Means statuses.Unfinished r words old new = IsProveRun Unfinished r words old new
Means statuses.Line r words old new = ⊤
Means statuses.Broken r words old new = ⊥
Means statuses.Read r words old new = Rose r.before r.after
Means statuses.Write r words old new = ⊥
Means statuses.Long r words old new = ⊤
Means statuses.Memory r words old new = ⊥
