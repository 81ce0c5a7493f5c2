-- What the status of a printed reply says of lines, answers and timetables.
use Rattle.std.proofs.Common.{◌≡◌, ℕ, ◌≤◌, ◌⊎◌, ⊎_elim, inr, List, length, take, Option, refl, sym, subst}
use Rattle.outside.specs.Sink.{appended}
use Rattle.answer_text.specs.declared.answer.Verdict.{Verdict}
use Rattle.answer_text.specs.declared.answer.Verdict.TheVariants.{Optimal, Nothing, Unfinished}
use Rattle.hoist_cli.specs.declared.status.Status.{Status}
use Rattle.hoist_cli.specs.declared.status.Status.TheVariants as statuses
use Rattle.hoist_cli.specs.Reading.{Reading, IsFileRefusal, IsLineStop, line_limit}
use Rattle.hoist_cli.specs.Solved.{status_of}
use Rattle.prove_words.specs.Request.{AskNoProof}
use Rattle.prove_cli.specs.Meaning.{IsProveRun, Means}
use Rattle.prove_cli.specs.Reply.{IsReply}
use Rattle.prove_cli.proofs.Claims.{claim_kept}

-- the meaning of a status is that of any that equals it
means : (status s : Status) (r : Reading) (words : List (List ℕ)) (old new : Option (List ℕ)) → status ≡ s
    → Means s r words old new
    → Means status r words old new
means status s r words old new e is = subst (λ x. Means x r words old new) (sym e) is

file_means : (r : Reading) (words : List (List ℕ)) (old new : Option (List ℕ)) (name : List ℕ) (status : Status) (text : List ℕ)
    → IsFileRefusal r name line_limit status text → Means status r words old new
file_means r words old new name status text is =
    ⊎_elim (λ (rose, (e, _)). means status statuses.Read r words old new e rose) (λ (long, (e, _)). means status statuses.Long r words old new e tt) is

stop_means : (r : Reading) (words : List (List ℕ)) (old new : Option (List ℕ)) (name : List ℕ) (status : Status) (text : List ℕ)
    → IsLineStop r name status text → Means status r words old new
stop_means r words old new name status text is =
    ⊎_elim (λ x. file_means r words old new name status text x) (λ (why, refused, (e, _)). means status statuses.Line r words old new e tt) is

verdict_means : (v : Verdict) (r : Reading) (words : List (List ℕ)) (old new : Option (List ℕ))
    → IsProveRun v r words old new
    → Means (status_of v) r words old new
verdict_means Optimal r words old new run = run
verdict_means Nothing r words old new run = run
verdict_means Unfinished r words old new run = run

pub reply_means : (r : Reading) (words : List (List ℕ)) (old new : Option (List ℕ)) (status : Status) (text : List ℕ)
    → new ≡ appended old text
    → IsReply r words status text → Means status r words old new
reply_means r words old new status text written is =
    ⊎_elim (λ (nothing, e, _). means status statuses.Words r words old new e nothing)
    (λ (file, nodes, asks, after).
    ⊎_elim (λ x. stop_means r words old new file status text x)
    (λ (l, line, (a, kept, none, e)).
    let run : IsProveRun a.verdict r words old new =
    record {
      file = file;
      nodes = nodes;
      line = l;
      answer = a;
      text = text;
      asks = asks;
      is_line = line;
      kept = kept;
      is = refl;
      claim = claim_kept l a line.valid kept.rules none;
      printed = written;
    } in
    means status (status_of a.verdict) r words old new e (verdict_means a.verdict r words old new run))
    after)
    is

-- a printed status means what it says
pub means_by : (r : Reading) (words : List (List ℕ)) (old new : Option (List ℕ)) (status s : Status) (text : List ℕ)
    → new ≡ appended old text
    → IsReply r words status text → status ≡ s → Means s r words old new
means_by r words old new status s text written is e = subst (λ x. Means x r words old new) e (reply_means r words old new status text written is)

-- what was written is a front of a reply's text
pub prefix_of : (r : Reading) (words : List (List ℕ)) (old new : Option (List ℕ)) (status : Status) (text shown : List ℕ)
    → IsReply r words status text → shown ≡ text → (n : ℕ) × (n ≤ length shown) × (new ≡ appended old (take n shown))
    → (new ≡ old)
    ⊎ ((status : Status) × (text : List ℕ) × (n : ℕ) × IsReply r words status text × (n ≤ length text) × (new ≡ appended old (take n text)))
prefix_of r words old new status text shown is e part =
    let (n, le, written) =
    subst (λ (t : List ℕ). (n : ℕ) × (n ≤ length t) × (new ≡ appended old (take n t))) e part in
    inr (status, text, n, is, le, written)

-- where the words ask for nothing the status says so
pub nothing_asked : (r : Reading) (words : List (List ℕ)) (status : Status) (text : List ℕ)
    → IsReply r words status text → AskNoProof words
    → status ≡ statuses.Words
nothing_asked r words status text is nothing = ⊎_elim (λ (_, e, _). e) (λ (file, nodes, asks, _). absurd (nothing file nodes asks)) is
