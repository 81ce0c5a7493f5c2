-- What the status of a printed reply says of lines, answers and timetables.
use Rattle.std.proofs.Common.{◌≡◌, ℕ, ◌≤◌, ◌⊎◌, ⊎_elim, inr, List, length, take, Option, Some, IfSome, refl, sym, subst}
use Rattle.hoist_base.specs.LineData.{LineData}
use Rattle.line_model.specs.Legal.{IsLegal, IsLeast, NoneBelow}
use Rattle.timetable.specs.TimetableData.{TimetableData, timetable_of}
use Rattle.outside.specs.Sink.{appended}
use Rattle.answer_text.specs.declared.answer.Verdict.{Verdict}
use Rattle.answer_text.specs.declared.answer.Verdict.TheVariants.{Optimal}
use Rattle.answer_text.specs.declared.answer.Answer.{Answer}
use Rattle.cert_checker.specs.Rules.{IsClaim}
use Rattle.hoist_cli.specs.declared.status.Status.{Status}
use Rattle.hoist_cli.specs.declared.status.Status.TheVariants as statuses
use Rattle.hoist_cli.specs.Reading.{Reading, IsFileRefusal, IsLineStop, IsAnswerStop, line_limit, answer_limit}
use Rattle.hoist_cli.specs.Meaning.{IsAnswerRun}
use Rattle.report_words.specs.declared.words.Form.{Form}
use Rattle.report_words.specs.Request.{AsksReport, AskNoReport}
use Rattle.report_cli.specs.Drawn.{IsDrawn, IsAnswered}
use Rattle.report_cli.specs.Meaning.{IsReported, Means}
use Rattle.report_cli.specs.Reply.{IsReply}

-- the meaning of a status is that of any that equals it
means : (status s : Status) (r : Reading) (words : List (List ℕ)) (old new : Option (List ℕ)) → status ≡ s
    → Means s r words old new
    → Means status r words old new
means status s r words old new e is = subst (λ x. Means x r words old new) (sym e) is

-- ---- refusals

file_means : (r : Reading) (words : List (List ℕ)) (old new : Option (List ℕ)) (name : List ℕ) (limit : ℕ)
    (status : Status) (text : List ℕ)
    → IsFileRefusal r name limit status text → Means status r words old new
file_means r words old new name limit status text is =
    ⊎_elim (λ (rose, (e, _)). means status statuses.Read r words old new e rose)
    (λ (long, (e, _)). means status statuses.Long r words old new e tt) is

line_means : (r : Reading) (words : List (List ℕ)) (old new : Option (List ℕ)) (name : List ℕ) (status : Status)
    (text : List ℕ)
    → IsLineStop r name status text → Means status r words old new
line_means r words old new name status text is =
    ⊎_elim (λ x. file_means r words old new name line_limit status text x)
    (λ (why, refused, (e, _)). means status statuses.Line r words old new e tt) is

answer_means : (r : Reading) (words : List (List ℕ)) (old new : Option (List ℕ)) (l : LineData) (name : List ℕ)
    (status : Status) (text : List ℕ)
    → IsAnswerStop r l name status text → Means status r words old new
answer_means r words old new l name status text is =
    ⊎_elim (λ x. file_means r words old new name answer_limit status text x)
    (λ (offset, broken, (e, _)). means status statuses.Broken r words old new e tt) is

-- ---- answers

-- an accepted answer that says so has the least period
least_by : (l : LineData) (verdict : Verdict) (bound : ℕ) (t : TimetableData) → IsClaim l verdict (Some t) bound
    → NoneBelow l bound
    → IsLegal l (timetable_of t) → verdict ≡ Optimal → IsLeast l t.period
least_by l verdict bound t claim none legal optimal =
    let e : bound ≡ t.period = subst (λ (v : Verdict). IsClaim l v (Some t) bound) optimal claim in
    record { some = (timetable_of t, legal, refl); none_below = subst (λ (n : ℕ). NoneBelow l n) e none }

drawn_means : (form : Form) (r : Reading) (words : List (List ℕ)) (old new : Option (List ℕ)) (l : LineData)
    (a : Answer) (text : List ℕ)
    → IsAnswerRun (AsksReport words form) r l a → new ≡ appended old text → IsDrawn form l a text
    → IsReported r words old new
drawn_means form r words old new l a text run written drawn =
    let t = drawn.timetable in
    let rules = drawn.accepted.kept in
    let legal : IsLegal l (timetable_of t) = subst
    (λ (o : Option TimetableData). IfSome o (λ x. IsLegal l (timetable_of x))) drawn.has rules.legal in
    let claim : IsClaim l a.verdict (Some t) a.bound = subst
    (λ (o : Option TimetableData). IsClaim l a.verdict o a.bound) drawn.has rules.claim in
    record {
      form = form;
      line = l;
      answer = a;
      text = text;
      run = run;
      drawn = drawn;
      legal = legal;
      least = λ optimal. least_by l a.verdict a.bound t claim drawn.accepted.none_below legal optimal;
      printed = written;
    }

answered_means : (form : Form) (r : Reading) (words : List (List ℕ)) (old new : Option (List ℕ)) (l : LineData)
    (a : Answer) (status : Status)
    (text : List ℕ) → IsAnswerRun (AsksReport words form) r l a → new ≡ appended old text
    → IsAnswered form l a status text
    → Means status r words old new
answered_means form r words old new l a status text run written is =
    ⊎_elim (λ (e, drawn). means status statuses.Done r words old new e
    (drawn_means form r words old new l a text run written drawn))
    (λ (e, undrawn).
    means status statuses.Negative r words old new e
    (record { form = form; line = l; answer = a; text = text; run = run; undrawn = undrawn; printed = written }))
    is

-- ---- replies

pub reply_means : (r : Reading) (words : List (List ℕ)) (old new : Option (List ℕ)) (status : Status) (text : List ℕ)
    → new ≡ appended old text
    → IsReply r words status text → Means status r words old new
reply_means r words old new status text written is =
    ⊎_elim (λ (nothing, e, _). means status statuses.Words r words old new e nothing)
    (λ (form, file, answer, asks, after).
    ⊎_elim (λ x. line_means r words old new file status text x)
    (λ (l, line, rest).
    ⊎_elim (λ x. answer_means r words old new l answer status text x)
    (λ (a, reads, answered).
    let run : IsAnswerRun (AsksReport words form) r l a = record {
      file = file;
      answer = answer;
      asks = asks;
      line =
          line;
      reads = reads;
    } in
    answered_means form r words old new l a status text run written answered)
    rest)
    after)
    is

-- a printed status means what it says
pub means_by : (r : Reading) (words : List (List ℕ)) (old new : Option (List ℕ)) (status s : Status) (text : List ℕ)
    → new ≡ appended old text
    → IsReply r words status text → status ≡ s → Means s r words old new
means_by r words old new status s text written is e = subst (λ x. Means x r words old new) e
    (reply_means r words old new status text written is)

-- what was written is a front of a reply's text
pub prefix_of : (r : Reading) (words : List (List ℕ)) (old new : Option (List ℕ)) (status : Status)
    (text shown : List ℕ)
    → IsReply r words status text → shown ≡ text → (n : ℕ) × (n ≤ length shown) × (new ≡ appended old (take n shown))
    → (new ≡ old)
    ⊎ ((status : Status) × (text : List ℕ) × (n : ℕ) × IsReply r words status text × (n ≤ length text)
    × (new ≡ appended old (take n text)))
prefix_of r words old new status text shown is e part =
    let (n, le, written) =
    subst (λ (t : List ℕ). (n : ℕ) × (n ≤ length t) × (new ≡ appended old (take n t))) e part in
    inr (status, text, n, is, le, written)

-- where the words ask for nothing the status says so
pub nothing_asked : (r : Reading) (words : List (List ℕ)) (status : Status) (text : List ℕ)
    → IsReply r words status text → AskNoReport words
    → status ≡ statuses.Words
nothing_asked r words status text is nothing = ⊎_elim (λ (_, e, _). e)
    (λ (form, file, answer, asks, _). absurd (nothing form file answer asks)) is
