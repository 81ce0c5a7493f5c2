-- Where nothing stands in the way of a request, a run ends as its command does.
use Rattle.std.proofs.Common.{◌≡◌, ℕ, ◌≤◌, ◌⊎◌, ⊎_elim, inl, inr, List, [], length, get_or, Bool, true, false, Option, Some, None, ap, subst, sym, ◌∙◌, arith, string_bytes}
use Rattle.hoist_base.specs.LineData.{LineData}
use Rattle.line_text.specs.declared.why.LineRead.TheVariants.{Ready, Refused}
use Rattle.line_text.specs.File.{bytes_read}
use Rattle.outside.specs.Count.{Rose}
use Rattle.outside.specs.Shelf.{Files, bytes_of}
use Rattle.timetable.specs.TimetableData.{TimetableData}
use Rattle.answer_text.specs.declared.answer.Answer.{Answer}
use Rattle.cert_checker.specs.declared.checked.Checked.{Checked}
use Rattle.cert_checker.specs.declared.checked.Checked.TheVariants.{Accepted, Rejected}
use Rattle.track_log.specs.declared.followed.Followed.{Followed}
use Rattle.track_log.specs.declared.followed.Followed.TheVariants as outcomes
use Rattle.track_log.specs.Following.{IsFollowed}
use Rattle.file_list.specs.declared.read.ListRead.{ListRead}
use Rattle.file_list.specs.declared.read.ListRead.TheVariants as lists
use Rattle.file_list.proofs.Lists.{only_one}
use Rattle.hoist_words.specs.declared.requests.Request.{Request}
use Rattle.hoist_words.specs.declared.requests.Request.TheVariants.{Solve, Check, Run, Chart, Drill, Sweep, Margin, Follow, Batch}
use Rattle.hoist_words.specs.Request.{IsRequestOf}
use Rattle.hoist_cli.specs.declared.status.Status.{Status}
use Rattle.hoist_cli.specs.declared.status.Status.TheVariants as statuses
use Rattle.hoist_cli.specs.Batched.{AfterList, IsListReply}
use Rattle.hoist_cli.specs.Complete.{HoldsLine, HoldsAnswer, HasInputs, IsDoneOrNegative, Ends, Completeness}
use Rattle.hoist_cli.specs.Followed.{status_of_followed, IsFollowOf}
use Rattle.hoist_cli.specs.Reading.{Replies, reading, line_limit, answer_limit, IsFileRefusal, AfterFile, AfterLine, AfterAnswer, AnswerReply}
use Rattle.hoist_cli.specs.Reply.{status_of_checked, IsJudged, AfterLegal, IsRunOf, IsChartOf, IsMarginOf, ReplyTo}
use Rattle.hoist_cli.specs.Solved.{IsSolved}
use Rattle.hoist_cli.specs.Swept.{sweep_status, IsSweepOf}
use Rattle.hoist_cli.proofs.Workers.{line_or, not_both}
use Rattle.degree_sweep.specs.Claims.{is_settled}

-- ---- files

not_refused : (files : Files) (before after : ℕ) (name : List ℕ) (limit : ℕ) (status : Status) (text : List ℕ)
    → (Rose before after → ⊥)
    → length (bytes_of files name) ≤ limit → IsFileRefusal (reading (Some files) before after) name limit status text
    → ⊥
not_refused files before after name limit status text steady small is =
    ⊎_elim (λ (rose, _). steady rose) (λ (long, _). omega (arith, long, small)) is

file_reply : (files : Files) (before after : ℕ) (name : List ℕ) (limit : ℕ) (Next : List ℕ → Replies) (status : Status) (text : List ℕ)
    → (Rose before after → ⊥) → length (bytes_of files name) ≤ limit
    → AfterFile (reading (Some files) before after) name limit Next status text
    → Next (bytes_of files name) status text
file_reply files before after name limit Next status text steady small is =
    ⊎_elim (λ refused. absurd (not_refused files before after name limit status text steady small refused))
    (λ (bytes, file, next). subst (λ (bs : List ℕ). Next bs status text) file.told next) is

line_reply : (files : Files) (before after : ℕ) (name : List ℕ) (Next : LineData → Replies) (status : Status) (text : List ℕ) (l : LineData)
    → (Rose before after → ⊥) → HoldsLine files name l
    → AfterLine (reading (Some files) before after) name Next status text → Next l status text
line_reply files before after name Next status text l steady holds is =
    ⊎_elim
    (⊎_elim (λ refused. absurd (not_refused files before after name line_limit status text steady holds.small refused))
    (λ (why, none, _).
    let read = subst (λ (bs : List ℕ). bytes_read bs ≡ Refused why) none.file.told none.read in
    absurd (not_both why l (sym read ∙ holds.read))))
    (λ (l', line, next).
    let read = subst (λ (bs : List ℕ). bytes_read bs ≡ Ready l') line.file.told line.read in
    let same : l' ≡ l = ap (line_or l) (sym read ∙ holds.read) in
    subst (λ (x : LineData). Next x status text) same next)
    is

answer_reply : (files : Files) (before after : ℕ) (file answer : List ℕ) (Next : LineData → Answer → Replies) (status : Status) (text : List ℕ)
    → (Rose before after → ⊥) → (holds : HoldsAnswer files file answer)
    → AnswerReply (reading (Some files) before after) file answer Next status text
    → (a : Answer) × Next holds.line a status text
answer_reply files before after file answer Next status text steady holds is =
    let r = reading (Some files) before after in
    let reply =
    line_reply files before after file (λ l. AfterAnswer r l answer (Next l)) status text holds.line steady holds.first is in
    ⊎_elim
    (⊎_elim (λ refused. absurd (not_refused files before after answer answer_limit status text steady holds.small refused))
    (λ (offset, none, _). absurd (none.breaks.no_text holds.answer holds.text.answer (none.file.told ∙ holds.text.text))))
    (λ (a, _, next). (a, next))
    reply

-- ---- statuses

judged : (status : Status) (checked : Checked) → status ≡ status_of_checked checked → IsDoneOrNegative status
judged status (Accepted claimed) e = inl e
judged status (Rejected reason) e = inr e

swept : (status : Status) (settled : Bool) (best : Option ℕ) → status ≡ sweep_status settled best
    → IsDoneOrNegative status ⊎ (status ≡ statuses.Unfinished)
swept status false best e = inr e
swept status true (Some best) e = inl (inl e)
swept status true None e = inl (inr e)

drawn : (l : LineData) (Next : TimetableData → Replies) (timetable : Option TimetableData) (status : Status) (text : List ℕ)
    → ((t : TimetableData) → Next t status text → status ≡ statuses.Done) → AfterLegal l Next timetable status text
    → IsDoneOrNegative status
drawn l Next timetable status text done is = ⊎_elim (λ (why, _, (e, _)). inr e) (λ (t, _, _, next). inl (done t next)) is

-- ---- commands

ends : (files : Files) (before after : ℕ) (request : Request) (status : Status) (text : List ℕ)
    → (Rose before after → ⊥)
    → HasInputs files request → ReplyTo (reading (Some files) before after) (Some request) status text
    → Ends files request status
ends files before after (Solve file budget workers) status text steady (l, holds) is =
    let (a, solution, _, _, e, _) = line_reply files before after (string_bytes file) (IsSolved budget) status text l steady holds is in
    record { line = l; holds = holds; answer = a; solution = solution; is = e }
ends files before after (Check file answer) status text steady holds is =
    let (a, (checked, _, _, e, _)) =
    answer_reply files before after (string_bytes file) (string_bytes answer) IsJudged status text steady holds is in
    judged status checked e
ends files before after (Run file answer carriers) status text steady holds is =
    let Next : LineData → Answer → Replies = λ l a. AfterLegal l (λ t s x. (s ≡ statuses.Done) × IsRunOf carriers l t x) a.timetable in
    let (a, reply) = answer_reply files before after (string_bytes file) (string_bytes answer) Next status text steady holds is in
    drawn holds.line (λ t s x. (s ≡ statuses.Done) × IsRunOf carriers holds.line t x) a.timetable status text (λ t next. next.0) reply
ends files before after (Chart file answer) status text steady holds is =
    let Next : LineData → Answer → Replies = λ l a. AfterLegal l (λ t s x. (s ≡ statuses.Done) × IsChartOf l t x) a.timetable in
    let (a, reply) = answer_reply files before after (string_bytes file) (string_bytes answer) Next status text steady holds is in
    drawn holds.line (λ t s x. (s ≡ statuses.Done) × IsChartOf holds.line t x) a.timetable status text (λ t next. next.0) reply
ends files before after (Drill seed) status text steady holds (a, _, _, e, _) = e
ends files before after (Sweep file upto budget workers) status text steady (l, holds) is =
    let (s, _, _, _, e, _) = line_reply files before after (string_bytes file) (IsSweepOf upto budget) status text l steady holds is in
    swept status (is_settled s.rows) s.best e
ends files before after (Margin file answer) status text steady holds is =
    let Next : LineData → Answer → Replies = λ l a. AfterLegal l (λ t s x. (s ≡ statuses.Done) × IsMarginOf l t x) a.timetable in
    let (a, reply) = answer_reply files before after (string_bytes file) (string_bytes answer) Next status text steady holds is in
    drawn holds.line (λ t s x. (s ≡ statuses.Done) × IsMarginOf holds.line t x) a.timetable status text (λ t next. next.0) reply
ends files before after (Follow file log) status text steady holds is =
    let r = reading (Some files) before after in
    let reply =
    line_reply files before after (string_bytes file) (λ l. AfterFile r (string_bytes log) answer_limit (IsFollowOf l)) status text holds.line steady
    holds.first is in
    let (f, followed, e, _) =
    file_reply files before after (string_bytes log) answer_limit (IsFollowOf holds.line) status text steady holds.small reply in
    at_end f followed e
  where
    at_end : (f : Followed) → IsFollowed holds.line (bytes_of files (string_bytes log)) f
        → status ≡ status_of_followed f → IsDoneOrNegative status
    at_end (outcomes.Follows last end) followed e = inl e
    at_end (outcomes.Departs tick breach) followed e = inr e
    at_end (outcomes.Broken offset) followed e = absurd (followed.no_text holds.log holds.text.fits holds.text.text)
ends files before after (Batch list budget workers) status text steady holds is =
    let r = reading (Some files) before after in
    let name = string_bytes list in
    let (read, right, reply) = file_reply files before after name line_limit (IsListReply r budget) status text steady holds.small is in
    let same : read ≡ lists.Ready holds.listed = only_one (bytes_of files name) read holds.listed right holds.is holds.text in
    let here : AfterList r budget (lists.Ready holds.listed) status text = subst (λ (x : ListRead). AfterList r budget x status text) same reply in
    ⊎_elim
    (λ stop.
    let path = get_or holds.listed stop.index [] in
    absurd (not_refused files before after path line_limit status text steady (holds.each stop.index stop.there) stop.refused))
    (λ (_, _, e, _). e)
    here

pub completeness : Completeness
completeness files before after written now words status some holds steady quiet run =
    ⊎_elim (λ failed. absurd (quiet (run.write failed)))
    (⊎_elim (λ wanted. inr wanted) (λ (text, (request, has, reply)). inl (ended request text has reply)))
    run.reply
  where
    ended : (request : Option Request) (text : List ℕ) → IsRequestOf words request
        → ReplyTo (reading (Some files) before after) request status text
        → (asked : Request) × IsRequestOf words (Some asked) × Ends files asked status
    ended None text has reply = absurd (some has)
    ended (Some request) text has reply = (request, has, ends files before after request status text steady (holds request has) reply)
