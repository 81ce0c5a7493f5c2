-- Which statuses come where nothing stands in the way of a request.
use Rattle.std.specs.Prelude.{◌≡◌, ℕ, ◌<◌, ◌≤◌, ◌⊎◌, List, [], length, get_or, ⊤, Some, string_bytes}
use Rattle.hoist_base.specs.LineData.{LineData}
use Rattle.line_text.specs.declared.why.LineRead.TheVariants.{Ready}
use Rattle.line_text.specs.File.{bytes_read}
use Rattle.outside.specs.Count.{Rose}
use Rattle.outside.specs.Shelf.{Files, bytes_of}
use Rattle.answer_text.specs.declared.answer.Answer.{Answer}
use Rattle.answer_read.specs.Answers as answers
use Rattle.solve_line.specs.AnswerOf.{IsSolution}
use Rattle.track_log.specs.Logs as logs
use Rattle.file_list.specs.FileList.{IsFileList, list_text}
use Rattle.hoist_words.specs.declared.requests.Request.{Request}
use Rattle.hoist_words.specs.declared.requests.Request.TheVariants.{Solve, Check, Run, Chart, Drill, Sweep, Margin, Follow, Batch}
use Rattle.hoist_words.specs.Request.{IsRequestOf, AskNothing}
use Rattle.hoist_cli.specs.declared.status.Status.{Status}
use Rattle.hoist_cli.specs.declared.status.Status.TheVariants as statuses
use Rattle.hoist_cli.specs.Reading.{reading, line_limit, answer_limit}
use Rattle.hoist_cli.specs.Reply.{IsReply}
use Rattle.hoist_cli.specs.Solved.{status_of}

-- ---- files that can be read

-- the file of this name is within its limit, and is the line
pub record HoldsLine (files : Files) (name : List ℕ) (l : LineData) : Type 0 where
  pub small : length (bytes_of files name) ≤ line_limit
  pub read : bytes_read (bytes_of files name) ≡ Ready l

-- some line
abbrev pub HoldsSome : Files → List ℕ → Type 0
HoldsSome files name = (l : LineData) × HoldsLine files name l

-- it is a line, and the second file is within its limit, and is the text of some answer to the line
pub record HoldsAnswer (files : Files) (name answer_name : List ℕ) : Type 0 where
  pub line : LineData
  pub first : HoldsLine files name line
  pub small : length (bytes_of files answer_name) ≤ answer_limit
  pub answer : Answer
  pub text : answers.IsTextOf line (bytes_of files answer_name) answer

-- it is the text of some log of the line
pub record HoldsLog (files : Files) (name log_name : List ℕ) : Type 0 where
  pub line : LineData
  pub first : HoldsLine files name line
  pub small : length (bytes_of files log_name) ≤ answer_limit
  pub log : logs.LogData
  pub text : logs.IsTextOf line (bytes_of files log_name) log

-- the file is within its limit, and is a list of files, each of which is within its own
pub record HoldsList (files : Files) (name : List ℕ) : Type 0 where
  pub small : length (bytes_of files name) ≤ line_limit
  pub listed : List (List ℕ)
  pub is : IsFileList listed
  pub text : bytes_of files name ≡ list_text listed
  pub each : (i : ℕ) → i < length listed → length (bytes_of files (get_or listed i [])) ≤ line_limit

-- the files of a request are what it needs
abbrev pub HasInputs : Files → Request → Type 0
HasInputs files (Solve file budget workers) = HoldsSome files (string_bytes file)
HasInputs files (Check file answer) = HoldsAnswer files (string_bytes file) (string_bytes answer)
HasInputs files (Run file answer carriers) = HoldsAnswer files (string_bytes file) (string_bytes answer)
HasInputs files (Chart file answer) = HoldsAnswer files (string_bytes file) (string_bytes answer)
HasInputs files (Drill seed) = ⊤
HasInputs files (Sweep file upto budget workers) = HoldsSome files (string_bytes file)
HasInputs files (Margin file answer) = HoldsAnswer files (string_bytes file) (string_bytes answer)
HasInputs files (Follow file log) = HoldsLog files (string_bytes file) (string_bytes log)
HasInputs files (Batch list budget workers) = HoldsList files (string_bytes list)

-- ---- the statuses

abbrev pub IsDoneOrNegative : Status → Type 0
IsDoneOrNegative status = (status ≡ statuses.Done) ⊎ (status ≡ statuses.Negative)

-- `solve` ends with the status of the verdict on the line of its file
pub record IsSolveStatus (files : Files) (name : List ℕ) (budget : ℕ) (status : Status) : Type 0 where
  pub line : LineData
  pub holds : HoldsLine files name line
  pub answer : Answer
  pub solution : IsSolution line budget answer
  pub is : status ≡ status_of answer.verdict

-- `sweep` finds a best, or that there is none, or spends its budget; the commands that read an answer or a log judge
-- it; `drill` and `batch` are done
abbrev pub Ends : Files → Request → Status → Type 0
Ends files (Solve file budget workers) status = IsSolveStatus files (string_bytes file) budget status
Ends files (Check file answer) status = IsDoneOrNegative status
Ends files (Run file answer carriers) status = IsDoneOrNegative status
Ends files (Chart file answer) status = IsDoneOrNegative status
Ends files (Drill seed) status = status ≡ statuses.Done
Ends files (Sweep file upto budget workers) status = IsDoneOrNegative status ⊎ (status ≡ statuses.Unfinished)
Ends files (Margin file answer) status = IsDoneOrNegative status
Ends files (Follow file log) status = IsDoneOrNegative status
Ends files (Batch list budget workers) status = status ≡ statuses.Done

-- ---- a run of the program

-- what the contract of `hoist` says of the status with which it ends: the text of a reply to the words with this status
-- was printed, or a write failed, and then the sink's count rose, or memory was wanted
pub record IsRun (files : Files) (before after written now : ℕ) (words : List (List ℕ)) (status : Status) : Type 0 where
  pub reply : (status ≡ statuses.Write)
      ⊎ ((status ≡ statuses.Memory) ⊎ ((text : List ℕ) × IsReply (reading (Some files) before after) words status text))
  pub write : status ≡ statuses.Write → Rose written now

-- Where the words ask for something, the shelf tells its files, those of what they ask for are what it needs and within
-- their limits, and neither the count of failed reads nor that of failed writes has risen, a run ends with a status of
-- what they ask for, or memory was wanted.
abbrev pub Completeness : Type 0
Completeness =
    (files : Files) (before after written now : ℕ) (words : List (List ℕ)) (status : Status)
    → (AskNothing words → ⊥) → ((request : Request) → IsRequestOf words (Some request) → HasInputs files request)
    → (Rose before after → ⊥) → (Rose written now → ⊥) → IsRun files before after written now words status
    → ((request : Request) × IsRequestOf words (Some request) × Ends files request status) ⊎ (status ≡ statuses.Memory)
