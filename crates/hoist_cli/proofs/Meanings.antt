-- What the status of a printed reply says of lines, answers and timetables.
use Rattle.std.proofs.Common.{◌≡◌, ℕ, ⊎_elim, inl, inr, List, Bool, true, false, Option, Some, None, refl, ap, subst, sym, ◌∙◌, string_bytes}
use Rattle.hoist_base.specs.LineData.{LineData}
use Rattle.line_model.specs.Legal.{NoneBelow}
use Rattle.timetable.specs.TimetableData.{TimetableData}
use Rattle.outside.specs.Sink.{appended}
use Rattle.answer_text.specs.declared.answer.Verdict.{Verdict}
use Rattle.answer_text.specs.declared.answer.Verdict.TheVariants as verdicts
use Rattle.answer_text.specs.declared.answer.Answer.{Answer}
use Rattle.cert_checker.specs.declared.checked.Checked.{Checked}
use Rattle.cert_checker.specs.declared.checked.Checked.TheVariants.{Accepted, Rejected}
use Rattle.cert_checker.specs.Order.{IsChecked, IsAccepted}
use Rattle.cert_checker.specs.Rules.{KeepsRules}
use Rattle.solve_line.specs.Claims.{ClaimOf}
use Rattle.hoist_words.specs.declared.requests.Request.{Request}
use Rattle.hoist_words.specs.declared.requests.Request.TheVariants.{Solve, Check, Run, Chart, Drill, Sweep, Margin, Follow, Batch}
use Rattle.hoist_words.specs.Request.{AsksSolve, AsksCheck, AsksRun, AsksChart, AsksSweep, AsksMargin, AsksFollow, AsksBatch, IsRequestOf}
use Rattle.hoist_cli.specs.declared.status.Status.{Status}
use Rattle.hoist_cli.specs.declared.status.Status.TheVariants as statuses
use Rattle.hoist_cli.specs.Reading.{Replies, Reading, IsFileRefusal, IsLineStop, IsAnswerStop, AnswerReply, IsFile, line_limit, answer_limit}
use Rattle.hoist_cli.specs.Solved.{SolveReply, status_of}
use Rattle.hoist_cli.specs.Swept.{SweepReply, sweep_status, status_of_swept}
use Rattle.hoist_cli.specs.Followed.{FollowReply, status_of_followed}
use Rattle.file_list.specs.declared.read.ListRead.{ListRead}
use Rattle.file_list.specs.declared.read.ListRead.TheVariants as lists
use Rattle.file_list.specs.FileList.{IsListRead}
use Rattle.hoist_cli.specs.Batched.{BatchReply, AfterList}
use Rattle.hoist_cli.proofs.Parts.{parts_solved}
use Rattle.hoist_cli.specs.Reply.{IsJudged, status_of_checked, Accepts, AfterLegal, TimetableReply, IsRunOf, IsChartOf, IsMarginOf, ReplyTo, IsReply}
use Rattle.degree_sweep.specs.Claims.{is_settled}
use Rattle.track_log.specs.declared.followed.Followed.{Followed}
use Rattle.track_log.specs.declared.followed.Followed.TheVariants.{Follows, Departs, Broken}
use Rattle.hoist_cli.specs.Meaning.{IsSolveRun, IsAnswerRun, IsDrawn, IsDeclined, IsSweepRun, IsSweepBy, IsFollowRun, IsDone, IsNegative, Means}

pub accepts_of : (l : LineData) (a : Answer) (checked : Checked) → (IsAccepted checked → KeepsRules l a)
    → (IsAccepted checked → NoneBelow l a.bound)
    → Accepts l a checked
accepts_of l a (Accepted claimed) kept bounds = (kept tt, bounds tt)
accepts_of l a (Rejected reason) kept bounds = tt

-- the meaning of a status is that of any that equals it
means : (status s : Status) (r : Reading) (words : List (List ℕ)) (old new : Option (List ℕ)) → status ≡ s
    → Means s r words old new
    → Means status r words old new
means status s r words old new e is = subst (λ x. Means x r words old new) (sym e) is

-- ---- refusals

file_means : (r : Reading) (words : List (List ℕ)) (old new : Option (List ℕ)) (name : List ℕ) (limit : ℕ) (status : Status) (text : List ℕ)
    → IsFileRefusal r name limit status text → Means status r words old new
file_means r words old new name limit status text is =
    ⊎_elim (λ (rose, (e, _)). means status statuses.Read r words old new e rose) (λ (long, (e, _)). means status statuses.Long r words old new e tt) is

line_means : (r : Reading) (words : List (List ℕ)) (old new : Option (List ℕ)) (name : List ℕ) (status : Status) (text : List ℕ)
    → IsLineStop r name status text → Means status r words old new
line_means r words old new name status text is =
    ⊎_elim (λ x. file_means r words old new name line_limit status text x) (λ (why, refused, (e, _)). means status statuses.Line r words old new e tt) is

answer_means : (r : Reading) (words : List (List ℕ)) (old new : Option (List ℕ)) (l : LineData) (name : List ℕ) (status : Status) (text : List ℕ)
    → IsAnswerStop r l name status text → Means status r words old new
answer_means r words old new l name status text is =
    ⊎_elim (λ x. file_means r words old new name answer_limit status text x) (λ (offset, broken, (e, _)). means status statuses.Broken r words old new e tt) is

-- a reply to two files is a refusal, or comes of the line and the answer
from_answer : (r : Reading) (words : List (List ℕ)) (old new : Option (List ℕ)) (file answer : List ℕ) (Next : LineData → Answer → Replies)
    (status : Status) (text : List ℕ) (Asks : List ℕ → List ℕ → Type 0) → Asks file answer
    → ((l : LineData) (a : Answer) → IsAnswerRun Asks r l a → Next l a status text → Means status r words old new)
    → AnswerReply r file answer Next status text → Means status r words old new
from_answer r words old new file answer Next status text Asks asks from is =
    ⊎_elim (λ x. line_means r words old new file status text x)
    (λ (l, line, next).
    ⊎_elim (λ x. answer_means r words old new l answer status text x)
    (λ (a, reads, after). from l a (record { file = file; answer = answer; asks = asks; line = line; reads = reads }) after) next)
    is

-- ---- solve

verdict_means : (r : Reading) (words : List (List ℕ)) (old new : Option (List ℕ)) (l : LineData) (budget : ℕ) (a : Answer) (v : Verdict)
    → IsSolveRun r words old new l budget a → ClaimOf l budget v a → Means (status_of v) r words old new
verdict_means r words old new l budget a verdicts.Optimal run claim = inl (l, budget, a, run, claim)
verdict_means r words old new l budget a verdicts.Nothing run claim = inl (l, budget, a, run, claim)
verdict_means r words old new l budget a verdicts.Unfinished run claim = inl (l, budget, a, run, claim)

solve_means : (r : Reading) (words : List (List ℕ)) (old new : Option (List ℕ)) (file : List ℕ) (budget workers : ℕ) (status : Status) (text : List ℕ)
    → AsksSolve words file budget workers → new ≡ appended old text → SolveReply r file budget status text
    → Means status r words old new
solve_means r words old new file budget workers status text asks written is =
    ⊎_elim (λ x. line_means r words old new file status text x)
    (λ (l, line, (a, solution, keeps, writable, e, printed)).
    let run : IsSolveRun r words old new l budget a =
    record {
      file = file;
      workers = workers;
      asks = asks;
      line = line;
      solution = solution;
      writable = writable;
      printed = written ∙ ap (appended old) printed;
    } in
    means status (status_of a.verdict) r words old new e (verdict_means r words old new l budget a a.verdict run keeps))
    is

-- ---- check

checked_means : (r : Reading) (words : List (List ℕ)) (old new : Option (List ℕ)) (l : LineData) (a : Answer) (checked : Checked)
    → IsAnswerRun (AsksCheck words) r l a → IsChecked l a checked → Accepts l a checked
    → Means (status_of_checked checked) r words old new
checked_means r words old new l a (Accepted claimed) run right accepts = inr (inl (l, a, run, accepts.0, accepts.1))
checked_means r words old new l a (Rejected reason) run right accepts = inr (inl (l, a, reason, run, right))

check_means : (r : Reading) (words : List (List ℕ)) (old new : Option (List ℕ)) (file answer : List ℕ) (status : Status) (text : List ℕ)
    → AsksCheck words file answer → AnswerReply r file answer IsJudged status text → Means status r words old new
check_means r words old new file answer status text asks is =
    from_answer r words old new file answer IsJudged status text (AsksCheck words) asks
    (λ l a run (checked, right, accepts, e, _).
    means status (status_of_checked checked) r words old new e (checked_means r words old new l a checked run right accepts))
    is

-- ---- run and chart

timetable_means : (r : Reading) (words : List (List ℕ)) (old new : Option (List ℕ)) (file answer : List ℕ) (Drawn : LineData → TimetableData → List ℕ → Type 0)
    (status : Status) (text : List ℕ) (Asks : List ℕ → List ℕ → Type 0) → Asks file answer → new ≡ appended old text
    → (IsDrawn Asks Drawn r old new → IsDone r words old new) → (IsDeclined Asks r old new → IsNegative r words old new)
    → TimetableReply r file answer Drawn status text → Means status r words old new
timetable_means r words old new file answer Drawn status text Asks asks written done negative is =
    from_answer r words old new file answer
    (λ l a. AfterLegal l (λ t status text. (status ≡ statuses.Done) × Drawn l t text) a.timetable) status text Asks asks
    (λ l a run next.
    ⊎_elim
    (λ (why, flawed, (e, printed)).
    means status statuses.Negative r words old new e
    (negative (record { line = l; answer = a; why = why; run = run; flawed = flawed; printed = written ∙ ap (appended old) printed })))
    (λ (t, has, legal, (e, drawn)).
    means status statuses.Done r words old new e
    (done (record { line = l; answer = a; timetable = t; run = run; has = has; legal = legal; text = text; drawn = drawn; printed = written })))
    next)
    is

-- ---- sweep

swept_means : (settled : Bool) (best : Option ℕ) (r : Reading) (words : List (List ℕ)) (old new : Option (List ℕ))
    → IsSweepBy settled best r words old new → Means (sweep_status settled best) r words old new
swept_means false best r words old new by = inr (best, by)
swept_means true (Some best) r words old new by = inr (inr (inr (inr (inr (inl (best, by))))))
swept_means true None r words old new by = inr (inr (inr (inr (inl by))))

sweep_means : (r : Reading) (words : List (List ℕ)) (old new : Option (List ℕ)) (file : List ℕ) (upto budget workers : ℕ)
    (status : Status) (text : List ℕ)
    → AsksSweep words file upto budget workers → new ≡ appended old text → SweepReply r file upto budget status text
    → Means status r words old new
sweep_means r words old new file upto budget workers status text asks written is =
    ⊎_elim (λ x. line_means r words old new file status text x)
    (λ (l, line, (s, swept, bounds, least, e, printed)).
    let run : IsSweepRun r words old new l upto budget s =
    record {
      file = file;
      workers = workers;
      asks = asks;
      line = line;
      swept = swept;
      bounds = bounds;
      least = least;
      printed = written ∙ ap (appended old) printed;
    } in
    means status (status_of_swept s) r words old new e
    (swept_means (is_settled s.rows) s.best r words old new
    (record { line = l; upto = upto; budget = budget; swept = s; run = run; is_settled = refl; best_is = refl })))
    is

-- ---- follow

followed_means : (r : Reading) (words : List (List ℕ)) (old new : Option (List ℕ)) (l : LineData) (f : Followed)
    → IsFollowRun r words old new l f → Means (status_of_followed f) r words old new
followed_means r words old new l (Follows last end) run = inr (inr (inr (inr (inr (inr (inl (l, last, end, run)))))))
followed_means r words old new l (Departs tick breach) run = inr (inr (inr (inr (inr (inl (l, tick, breach, run))))))
followed_means r words old new l (Broken offset) run = tt

follow_means : (r : Reading) (words : List (List ℕ)) (old new : Option (List ℕ)) (file log : List ℕ) (status : Status) (text : List ℕ)
    → AsksFollow words file log → new ≡ appended old text → FollowReply r file log status text
    → Means status r words old new
follow_means r words old new file log status text asks written is =
    ⊎_elim (λ x. line_means r words old new file status text x)
    (λ (l, line, next).
    ⊎_elim (λ x. file_means r words old new log answer_limit status text x)
    (λ (bytes, read, (f, followed, e, printed)).
    let run : IsFollowRun r words old new l f =
    record {
      file = file;
      log = log;
      bytes = bytes;
      asks = asks;
      line = line;
      read = read;
      followed = followed;
      printed = written ∙ ap (appended old) printed;
    } in
    means status (status_of_followed f) r words old new e (followed_means r words old new l f run))
    next)
    is

-- ---- batch

list_means : (r : Reading) (words : List (List ℕ)) (old new : Option (List ℕ)) (list : List ℕ) (budget workers : ℕ) (bytes : List ℕ)
    (read : ListRead) (status : Status) (text : List ℕ)
    → AsksBatch words list budget workers → new ≡ appended old text → IsFile r.files list line_limit bytes
    → IsListRead bytes read
    → AfterList r budget read status text → Means status r words old new
list_means r words old new list budget workers bytes (lists.Ready names) status text asks written file is after =
    ⊎_elim (λ stop. file_means r words old new _ line_limit status text stop.refused)
    (λ (reads, are, e, (parts, each, printed)).
    means status statuses.Done r words old new e
    (inr (inr (inr (inr (inr (inr (inr (inl (record {
      list = list;
      budget = budget;
      workers = workers;
      asks = asks;
      bytes = bytes;
      read = file;
      names = names;
      is = is.0;
      bytes_are = is.1;
      parts = parts;
      solved = parts_solved r budget names reads parts are each;
      printed = written ∙ ap (appended old) printed;
    }))))))))))
    after
list_means r words old new list budget workers bytes (lists.Broken offset) status text asks written file is after =
    means status statuses.Broken r words old new after.0 tt

batch_means : (r : Reading) (words : List (List ℕ)) (old new : Option (List ℕ)) (list : List ℕ) (budget workers : ℕ) (status : Status)
    (text : List ℕ)
    → AsksBatch words list budget workers → new ≡ appended old text → BatchReply r list budget status text
    → Means status r words old new
batch_means r words old new list budget workers status text asks written is =
    ⊎_elim (λ x. file_means r words old new list line_limit status text x)
    (λ (bytes, file, (read, right, after)). list_means r words old new list budget workers bytes read status text asks written file right after)
    is

-- ---- all requests

request_means : (r : Reading) (words : List (List ℕ)) (old new : Option (List ℕ)) (status : Status) (text : List ℕ) (request : Option Request)
    → new ≡ appended old text → IsRequestOf words request → ReplyTo r request status text → Means status r words old new
request_means r words old new status text None written asks is = means status statuses.Words r words old new is.0 asks
request_means r words old new status text (Some (Solve file budget workers)) written asks is =
    solve_means r words old new (string_bytes file) budget workers status text asks written is
request_means r words old new status text (Some (Check file answer)) written asks is =
    check_means r words old new (string_bytes file) (string_bytes answer) status text asks is
request_means r words old new status text (Some (Run file answer carriers)) written asks is =
    timetable_means r words old new (string_bytes file) (string_bytes answer) (IsRunOf carriers) status text
    (λ f a. AsksRun words f a carriers) asks written (λ x. inr (inr (inl (carriers, x)))) (λ x. inr (inr (inl (carriers, x)))) is
request_means r words old new status text (Some (Chart file answer)) written asks is =
    timetable_means r words old new (string_bytes file) (string_bytes answer) IsChartOf status text
    (AsksChart words) asks written (λ x. inr (inr (inr (inl x)))) (λ x. inr (inr (inr (inl x)))) is
request_means r words old new status text (Some (Drill seed)) written asks (a, solution, kept, e, printed) =
    means status statuses.Done r words old new e
    (inr (inr (inr (inr (inl (record {
      seed = seed;
      answer = a;
      asks = asks;
      solution = solution;
      kept = kept;
      printed = written ∙ ap (appended old) printed;
    }))))))
request_means r words old new status text (Some (Sweep file upto budget workers)) written asks is =
    sweep_means r words old new (string_bytes file) upto budget workers status text asks written is
request_means r words old new status text (Some (Margin file answer)) written asks is =
    timetable_means r words old new (string_bytes file) (string_bytes answer) IsMarginOf status text
    (AsksMargin words) asks written (λ x. inr (inr (inr (inr (inr (inr (inr (inr x)))))))) (λ x. inr (inr (inr (inr (inr (inr x)))))) is
request_means r words old new status text (Some (Follow file log)) written asks is =
    follow_means r words old new (string_bytes file) (string_bytes log) status text asks written is
request_means r words old new status text (Some (Batch list budget workers)) written asks is =
    batch_means r words old new (string_bytes list) budget workers status text asks written is

pub reply_means : (r : Reading) (words : List (List ℕ)) (old new : Option (List ℕ)) (status : Status) (text : List ℕ)
    → new ≡ appended old text
    → IsReply r words status text → Means status r words old new
reply_means r words old new status text written (request, asks, is) = request_means r words old new status text request written asks is
