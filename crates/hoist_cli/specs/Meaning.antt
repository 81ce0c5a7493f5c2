-- What the statuses say of lines, answers and timetables.
use Rattle.std.specs.Prelude.{◌≡◌, ℕ, ◌⊎◌, List, ◌++◌, codes, Bool, true, false, Option, Some, None, ⊤}
use Rattle.hoist_base.specs.LineData.{LineData}
use Rattle.line_model.specs.Legal.{IsLegal, NoneBelow}
use Rattle.timetable.specs.TimetableData.{TimetableData, timetable_of}
use Rattle.outside.specs.Count.{Rose}
use Rattle.outside.specs.Sink.{appended}
use Rattle.answer_text.specs.declared.answer.Answer.{Answer}
use Rattle.answer_text.specs.Answers.{answer_text, IsWritable}
use Rattle.cert_checker.specs.declared.reason.Reason.{Reason}
use Rattle.cert_checker.specs.Order.{IsFirstReason}
use Rattle.cert_checker.specs.Rules.{KeepsRules}
use Rattle.solve_line.specs.AnswerOf.{IsSolution}
use Rattle.solve_line.specs.Claims.{IsOptimal, IsNothing, IsUnfinished}
use Rattle.line_gen.specs.Generated.{generated}
use Rattle.hoist_words.specs.Request.{AsksSolve, AsksCheck, AsksRun, AsksChart, AsksDrill, AsksSweep, AsksMargin, AsksFollow, AsksBatch, AskNothing}
use Rattle.hoist_cli.specs.declared.status.Status.{Status}
use Rattle.hoist_cli.specs.declared.status.Status.TheVariants.{Done, Negative, Words, Unfinished, Line, Broken, Read, Write, Long, Memory}
use Rattle.hoist_cli.specs.Drill.{drill_budget, drill_text}
use Rattle.hoist_cli.specs.Reading.{Reading, IsLineIn, IsAnswerIn, IsFile, line_limit, answer_limit}
use Rattle.hoist_cli.specs.Batched.{IsSolvedPart}
use Rattle.std.specs.List.{AllZip}
use Rattle.file_list.specs.FileList.{IsFileList, list_text}
use Rattle.batch_lines.specs.declared.single.Single.{Single}
use Rattle.batch_lines.specs.Parts.{text_of}
use Rattle.hoist_cli.specs.Reply.{IsFlawed, IsRunOf, IsChartOf, IsMarginOf}
use Rattle.degree_sweep.specs.declared.swept.Swept.{Swept}
use Rattle.degree_sweep.specs.Sweep.{IsSwept}
use Rattle.degree_sweep.specs.Claims.{AreBounds, IsLeastSwept, is_settled}
use Rattle.degree_sweep.specs.SweepText.{sweep_text}
use Rattle.tick_machine.specs.declared.frame.Frame.{Frame}
use Rattle.tick_machine.specs.declared.breach.Breach.{Breach}
use Rattle.track_log.specs.declared.followed.Followed.{Followed}
use Rattle.track_log.specs.declared.followed.Followed.TheVariants.{Follows, Departs}
use Rattle.track_log.specs.Following.{IsFollowed}
use Rattle.track_log.specs.Texts.{followed_text}

-- the words ask to solve the line l of a file under a budget, and the text of this answer was printed, which is that of
-- the search
pub record IsSolveRun (r : Reading) (words : List (List ℕ)) (old new : Option (List ℕ)) (l : LineData) (budget : ℕ) (a : Answer) : Type 0 where
  pub file : List ℕ
  pub workers : ℕ
  pub asks : AsksSolve words file budget workers
  pub line : IsLineIn r.files file l
  pub solution : IsSolution l budget a
  pub writable : IsWritable l a
  pub printed : new ≡ appended old (answer_text l a)

-- two files are asked about, and hold the line l and the answer a to it
pub record IsAnswerRun (Asks : List ℕ → List ℕ → Type 0) (r : Reading) (l : LineData) (a : Answer) : Type 0 where
  pub file : List ℕ
  pub answer : List ℕ
  pub asks : Asks file answer
  pub line : IsLineIn r.files file l
  pub reads : IsAnswerIn r.files l answer a

-- two files are asked about, the answer has a legal timetable, and what is drawn of it was printed
pub record IsDrawn (Asks : List ℕ → List ℕ → Type 0) (IsDrawnBy : LineData → TimetableData → List ℕ → Type 0) (r : Reading)
    (old new : Option (List ℕ)) : Type 0 where
  pub line : LineData
  pub answer : Answer
  pub timetable : TimetableData
  pub run : IsAnswerRun Asks r line answer
  pub has : answer.timetable ≡ Some timetable
  pub legal : IsLegal line (timetable_of timetable)
  pub text : List ℕ
  pub drawn : IsDrawnBy line timetable text
  pub printed : new ≡ appended old text

-- two files are asked about, the answer has no timetable or an illegal one, and why it is rejected was printed
pub record IsDeclined (Asks : List ℕ → List ℕ → Type 0) (r : Reading) (old new : Option (List ℕ)) : Type 0 where
  pub line : LineData
  pub answer : Answer
  pub why : List ℕ
  pub run : IsAnswerRun Asks r line answer
  pub flawed : IsFlawed line answer.timetable why
  pub printed : new ≡ appended old (codes "rejected: " ++ (why ++ codes "\n"))

-- the words ask for the drill of a seed, and its text was printed
pub record IsDrilled (words : List (List ℕ)) (old new : Option (List ℕ)) : Type 0 where
  pub seed : ℕ
  pub answer : Answer
  pub asks : AsksDrill words seed
  pub solution : IsSolution (generated seed) drill_budget answer
  pub kept : KeepsRules (generated seed) answer
  pub printed : new ≡ appended old (drill_text seed (generated seed) answer)

-- the words ask for the sweep of the line l of a file, and its text was printed; no legal timetable of a degree has a
-- period below the bound of its row
pub record IsSweepRun (r : Reading) (words : List (List ℕ)) (old new : Option (List ℕ)) (l : LineData) (upto budget : ℕ) (s : Swept) : Type 0 where
  pub file : List ℕ
  pub workers : ℕ
  pub asks : AsksSweep words file upto budget workers
  pub line : IsLineIn r.files file l
  pub swept : IsSwept l upto budget s
  pub bounds : AreBounds l s.rows
  pub least : IsLeastSwept l upto s
  pub printed : new ≡ appended old (sweep_text s)

-- the words ask for a sweep that is settled or not, with this best degree or none
pub record IsSweepBy (settled : Bool) (best : Option ℕ) (r : Reading) (words : List (List ℕ)) (old new : Option (List ℕ)) : Type 0 where
  pub line : LineData
  pub upto : ℕ
  pub budget : ℕ
  pub swept : Swept
  pub run : IsSweepRun r words old new line upto budget swept
  pub is_settled : is_settled swept.rows ≡ settled
  pub best_is : swept.best ≡ best

-- the words ask to follow the log of a file on the machine of the line l of another, and how far it is followed was
-- printed
pub record IsFollowRun (r : Reading) (words : List (List ℕ)) (old new : Option (List ℕ)) (l : LineData) (f : Followed) : Type 0 where
  pub file : List ℕ
  pub log : List ℕ
  pub bytes : List ℕ
  pub asks : AsksFollow words file log
  pub line : IsLineIn r.files file l
  pub read : IsFile r.files log answer_limit bytes
  pub followed : IsFollowed l bytes f
  pub printed : new ≡ appended old (followed_text f)

-- the words ask to solve the lines of the files that a list names, and for each of them, in this order, what `solve`
-- prints was printed, with its status
pub record IsBatchRun (r : Reading) (words : List (List ℕ)) (old new : Option (List ℕ)) : Type 0 where
  pub list : List ℕ
  pub budget : ℕ
  pub workers : ℕ
  pub asks : AsksBatch words list budget workers
  pub bytes : List ℕ
  pub read : IsFile r.files list line_limit bytes
  pub names : List (List ℕ)
  pub is : IsFileList names
  pub bytes_are : bytes ≡ list_text names
  pub parts : List Single
  pub solved : AllZip (IsSolvedPart r budget) names parts
  pub printed : new ≡ appended old (text_of parts)

-- a printed answer is optimal; a checked one keeps all rules; a run or a chart of a legal timetable is printed, or a
-- drill; a sweep is settled with a best degree; a log is followed to its last tick; the lines of a list are solved; the
-- margin of a legal timetable is printed
abbrev pub IsDone : Reading → List (List ℕ) → Option (List ℕ) → Option (List ℕ) → Type 0
IsDone r words old new =
    ((l : LineData) × (budget : ℕ) × (a : Answer) × IsSolveRun r words old new l budget a × IsOptimal l a)
    ⊎ (((l : LineData) × (a : Answer) × IsAnswerRun (AsksCheck words) r l a × KeepsRules l a × NoneBelow l a.bound)
    ⊎ (((carriers : ℕ) × IsDrawn (λ file answer. AsksRun words file answer carriers) (IsRunOf carriers) r old new)
    ⊎ (IsDrawn (AsksChart words) IsChartOf r old new
    ⊎ (IsDrilled words old new
    ⊎ (((best : ℕ) × IsSweepBy true (Some best) r words old new)
    ⊎ (((l : LineData) × (last : ℕ) × (end : Frame) × IsFollowRun r words old new l (Follows last end))
    ⊎ (IsBatchRun r words old new
    ⊎ IsDrawn (AsksMargin words) IsMarginOf r old new)))))))

-- a printed answer says that there is no timetable; a checked one has a first reason to be rejected; one whose
-- timetable was to be played or drawn has none that is legal; a sweep is settled without a best degree; a log departs
-- from the rules
abbrev pub IsNegative : Reading → List (List ℕ) → Option (List ℕ) → Option (List ℕ) → Type 0
IsNegative r words old new =
    ((l : LineData) × (budget : ℕ) × (a : Answer) × IsSolveRun r words old new l budget a × IsNothing l a)
    ⊎ (((l : LineData) × (a : Answer) × (reason : Reason) × IsAnswerRun (AsksCheck words) r l a × IsFirstReason l a reason)
    ⊎ (((carriers : ℕ) × IsDeclined (λ file answer. AsksRun words file answer carriers) r old new)
    ⊎ (IsDeclined (AsksChart words) r old new
    ⊎ (IsSweepBy true None r words old new
    ⊎ (((l : LineData) × (tick : ℕ) × (breach : Breach) × IsFollowRun r words old new l (Departs tick breach))
    ⊎ IsDeclined (AsksMargin words) r old new)))))

-- a printed answer is open, or a row of a sweep is
abbrev pub IsOpen : Reading → List (List ℕ) → Option (List ℕ) → Option (List ℕ) → Type 0
IsOpen r words old new =
    ((l : LineData) × (budget : ℕ) × (a : Answer) × IsSolveRun r words old new l budget a × IsUnfinished l budget a)
    ⊎ ((best : Option ℕ) × IsSweepBy false best r words old new)

-- what each status of a printed reply says
abbrev pub Means : Status → Reading → List (List ℕ) → Option (List ℕ) → Option (List ℕ) → Type 0
Means Done r words old new = IsDone r words old new
Means Negative r words old new = IsNegative r words old new
Means Words r words old new = AskNothing words
Means Unfinished r words old new = IsOpen r words old new
Means Line r words old new = ⊤
Means Broken r words old new = ⊤
Means Read r words old new = Rose r.before r.after
Means Write r words old new = ⊥
Means Long r words old new = ⊤
Means Memory r words old new = ⊥
