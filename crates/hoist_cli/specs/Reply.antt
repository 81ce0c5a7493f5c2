-- What the program prints, and the status that it ends with, for its words and for what was read.
use Rattle.std.specs.Prelude.{◌≡◌, ℕ, ◌⊎◌, List, ◌++◌, codes, Option, Some, None, string_bytes}
use Rattle.hoist_base.specs.LineData.{LineData, is_single}
use Rattle.line_model.specs.Legal.{IsLegal, NoneBelow}
use Rattle.timetable.specs.TimetableData.{TimetableData, timetable_of}
use Rattle.timetable.specs.Faults.{IsFirstFault}
use Rattle.timetable.specs.declared.fault.Fault.{Fault}
use Rattle.answer_text.specs.declared.answer.Answer.{Answer}
use Rattle.cert_checker.specs.declared.checked.Checked.{Checked}
use Rattle.cert_checker.specs.declared.checked.Checked.TheVariants.{Accepted, Rejected}
use Rattle.cert_checker.specs.Order.{IsChecked}
use Rattle.cert_checker.specs.Rules.{KeepsRules}
use Rattle.check_text.specs.Faults.{fault_of}
use Rattle.check_text.specs.Reasons.{checked_of}
use Rattle.run_text.specs.RunText.{run_text}
use Rattle.gantt_report.specs.Chart.{chart_text}
use Rattle.gantt_report.specs.DwellTable.{dwell_text}
use Rattle.window_margin.specs.declared.reads.MarginRead.{MarginRead}
use Rattle.window_margin.specs.Found.{IsMarginRead}
use Rattle.window_margin.specs.MarginText.{margin_text}
use Rattle.hoist_words.specs.declared.requests.Request.{Request}
use Rattle.hoist_words.specs.declared.requests.Request.TheVariants.{Solve, Check, Run, Chart, Drill, Sweep, Margin, Follow, Batch}
use Rattle.hoist_words.specs.Request.{IsRequestOf}
use Rattle.hoist_cli.specs.declared.status.Status.{Status}
use Rattle.hoist_cli.specs.declared.status.Status.TheVariants.{Done, Negative, Words}
use Rattle.hoist_cli.specs.Drill.{DrillReply}
use Rattle.hoist_cli.specs.Solved.{SolveReply}
use Rattle.hoist_cli.specs.Swept.{SweepReply}
use Rattle.hoist_cli.specs.Followed.{FollowReply}
use Rattle.hoist_cli.specs.Batched.{BatchReply}
use Rattle.hoist_cli.specs.Reading.{Replies, Reading, IsLineOf, AnswerReply}

-- ---- check

abbrev pub status_of_checked : Checked → Status
status_of_checked (Accepted claimed) = Done
status_of_checked (Rejected reason) = Negative

-- what acceptance says: the answer keeps all rules, and no legal timetable has a period below its bound
abbrev pub Accepts : LineData → Answer → Checked → Type 0
Accepts l a (Accepted claimed) = KeepsRules l a × NoneBelow l a.bound
Accepts l a (Rejected reason) = Unit {0}

-- the text of what the checker answers
abbrev pub IsJudged : LineData → Answer → Replies
IsJudged l a status text =
    (checked : Checked) × IsChecked l a checked × Accepts l a checked × (status ≡ status_of_checked checked)
    × (text ≡ checked_of (is_single l) checked)

-- ---- run and chart

-- why the timetable of an answer is rejected: there is none, or it isn't legal, for its first fault
abbrev pub IsFlawed : LineData → Option TimetableData → List ℕ → Type 0
IsFlawed l None why = why ≡ codes "timetable missing"
IsFlawed l (Some t) why =
    (IsLegal l (timetable_of t) → ⊥) × ((fault : Fault) × IsFirstFault l (timetable_of t) fault × (why ≡ fault_of fault))

-- the reply where the timetable of an answer has to be legal: it is rejected, or what the legal one calls for
abbrev pub AfterLegal : LineData → (TimetableData → Replies) → Option TimetableData → Replies
AfterLegal l Next timetable status text =
    ((why : List ℕ) × IsFlawed l timetable why × IsLineOf Negative (codes "rejected: ") why status text)
    ⊎ ((t : TimetableData) × (timetable ≡ Some t) × IsLegal l (timetable_of t) × Next t status text)

-- the reply where the timetable of an answer is drawn or played: such a text
abbrev pub TimetableReply : Reading → List ℕ → List ℕ → (LineData → TimetableData → List ℕ → Type 0) → Replies
TimetableReply r file answer IsDrawnBy =
    AnswerReply r file answer (λ l a. AfterLegal l (λ t status text. (status ≡ Done) × IsDrawnBy l t text) a.timetable)

-- the run of the first n carriers
abbrev pub IsRunOf : ℕ → LineData → TimetableData → List ℕ → Type 0
IsRunOf n l t text = text ≡ run_text l (timetable_of t) n

-- the chart, and then the dwell table
abbrev pub IsChartOf : LineData → TimetableData → List ℕ → Type 0
IsChartOf l t text = text ≡ chart_text l (timetable_of t) ++ dwell_text l (timetable_of t)

-- the margin of its windows
abbrev pub IsMarginOf : LineData → TimetableData → List ℕ → Type 0
IsMarginOf l t text = (read : MarginRead) × IsMarginRead l (timetable_of t) read × (text ≡ margin_text read)

-- ---- words

abbrev pub usage : List ℕ
usage =
    codes "usage: hoist solve FILE [--budget N] [--workers N]\n"
    ++ (codes "       hoist check FILE ANSWER\n"
    ++ (codes "       hoist run FILE ANSWER [--carriers N]\n"
    ++ (codes "       hoist chart FILE ANSWER\n"
    ++ (codes "       hoist drill SEED\n"
    ++ (codes "       hoist sweep FILE [--upto N] [--budget N] [--workers N]\n"
    ++ (codes "       hoist margin FILE ANSWER\n"
    ++ (codes "       hoist follow FILE LOG\n"
    ++ codes "       hoist batch LIST [--budget N] [--workers N]\n")))))))

-- the reply to a request, and where there is none
abbrev pub ReplyTo : Reading → Option Request → Replies
ReplyTo r None status text = (status ≡ Words) × (text ≡ usage)
ReplyTo r (Some (Solve file budget workers)) status text = SolveReply r (string_bytes file) budget status text
ReplyTo r (Some (Check file answer)) status text = AnswerReply r (string_bytes file) (string_bytes answer) IsJudged status text
ReplyTo r (Some (Run file answer carriers)) status text =
    TimetableReply r (string_bytes file) (string_bytes answer) (IsRunOf carriers) status text
ReplyTo r (Some (Chart file answer)) status text = TimetableReply r (string_bytes file) (string_bytes answer) IsChartOf status text
ReplyTo r (Some (Drill seed)) status text = DrillReply seed status text
ReplyTo r (Some (Sweep file upto budget workers)) status text = SweepReply r (string_bytes file) upto budget status text
ReplyTo r (Some (Margin file answer)) status text =
    TimetableReply r (string_bytes file) (string_bytes answer) IsMarginOf status text
ReplyTo r (Some (Follow file log)) status text = FollowReply r (string_bytes file) (string_bytes log) status text
ReplyTo r (Some (Batch list budget workers)) status text = BatchReply r (string_bytes list) budget status text

-- the reply to the words
abbrev pub IsReply : Reading → List (List ℕ) → Replies
IsReply r words status text = (request : Option Request) × IsRequestOf words request × ReplyTo r request status text
