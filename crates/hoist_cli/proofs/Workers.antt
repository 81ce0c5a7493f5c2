-- However many workers there are, a file and a budget give one text.
use Rattle.std.proofs.Common.{◌≡◌, ◌≢◌, ℕ, ◌<◌, ◌≤◌, ◌⊎◌, ⊎_elim, inl, inr, List, [], ◌∷◌, ◌++◌, length, codes, Option, Some, None, ap, subst, sym, ◌∙◌, arith, string_bytes, get_or}
use Rattle.hoist_base.specs.LineData.{LineData}
use Rattle.hoist_base.specs.Valid.{IsLine}
use Rattle.line_text.specs.declared.why.Why.{Why}
use Rattle.line_text.specs.declared.why.LineRead.{LineRead}
use Rattle.line_text.specs.declared.why.LineRead.TheVariants.{Ready, Refused}
use Rattle.line_text.specs.File.{bytes_read}
use Rattle.line_text.specs.Refusal.{refusal_of}
use Rattle.outside.specs.Shelf.{Files, bytes_of}
use Rattle.answer_text.specs.declared.answer.Answer.{Answer}
use Rattle.answer_text.specs.Answers.{answer_text}
use Rattle.solve_line.proofs.OneLemmas.{solution_is_one}
use Rattle.hoist_words.specs.declared.requests.Request.{Request}
use Rattle.hoist_words.specs.declared.requests.Request.TheVariants.{Solve, Check, Run, Chart, Drill, Sweep, Margin, Follow, Batch}
use Rattle.hoist_words.specs.Table.{splits}
use Rattle.hoist_words.specs.Request.{AsksSolve, IsNumber, IsRequestOf}
use Rattle.hoist_words.proofs.RequestLemmas.{one_asked}
use Rattle.hoist_cli.specs.declared.status.Status.{Status}
use Rattle.hoist_cli.specs.declared.status.Status.TheVariants as statuses
use Rattle.hoist_cli.specs.Laws.{WorkersDoNotMatter}
use Rattle.hoist_cli.specs.Reading.{Reading, reading, line_limit, IsLineOf}
use Rattle.hoist_cli.specs.Reply.{ReplyTo}
use Rattle.hoist_cli.specs.Solved.{SolveReply, IsSolved, status_of}

-- ---- the request

small_budget : (vs : List (List ℕ)) (n : ℕ) → IsNumber (Some splits) vs n → n ≤ 20000
small_budget [] n e = omega (arith, e)
small_budget (v ∷ []) n (word, least, most) = most
small_budget (v ∷ w ∷ vs) n is = absurd is

-- words that ask to solve a file have a reply of `solve` to this file
replied : (r : Reading) (words : List (List ℕ)) (file : List ℕ) (budget workers : ℕ) (status : Status) (text : List ℕ) (request : Option Request)
    → AsksSolve words file budget workers → IsRequestOf words request → ReplyTo r request status text
    → SolveReply r file budget status text
replied r words file budget workers status text None asks has is = absurd (has _ _ _ asks)
replied r words file budget workers status text (Some (Solve f b w)) asks has is =
    let (same, files, numbers) = one_asked _ _ _ _ _ _ _ has asks in
    let named : string_bytes f ≡ file = ap (λ (names : List (List ℕ)). get_or names 0 []) files in
    let spent : b ≡ budget = ap (λ n. n.budget) numbers in
    subst (λ (n : ℕ). SolveReply r file n status text) spent (subst (λ (name : List ℕ). SolveReply r name b status text) named is)
replied r words file budget workers status text (Some (Check f a)) asks has is = let (same, _, _) = one_asked _ _ _ _ _ _ _ has asks in absurd cc
replied r words file budget workers status text (Some (Run f a n)) asks has is = let (same, _, _) = one_asked _ _ _ _ _ _ _ has asks in absurd cc
replied r words file budget workers status text (Some (Chart f a)) asks has is = let (same, _, _) = one_asked _ _ _ _ _ _ _ has asks in absurd cc
replied r words file budget workers status text (Some (Drill seed)) asks has is = let (same, _, _) = one_asked _ _ _ _ _ _ _ has asks in absurd cc
replied r words file budget workers status text (Some (Sweep f u b w)) asks has is = let (same, _, _) = one_asked _ _ _ _ _ _ _ has asks in absurd cc
replied r words file budget workers status text (Some (Margin f a)) asks has is = let (same, _, _) = one_asked _ _ _ _ _ _ _ has asks in absurd cc
replied r words file budget workers status text (Some (Follow f a)) asks has is = let (same, _, _) = one_asked _ _ _ _ _ _ _ has asks in absurd cc
replied r words file budget workers status text (Some (Batch f b w)) asks has is = let (same, _, _) = one_asked _ _ _ _ _ _ _ has asks in absurd cc

-- ---- one reply to one file

-- a file that was read is too long, or no line, or a line that was solved
abbrev IsEnd : ℕ → List ℕ → List ℕ → Status → List ℕ → Type 0
IsEnd budget bytes name status text =
    ((line_limit < length bytes) × IsLineOf statuses.Long (codes "too long: ") name status text)
    ⊎ (((why : Why) × (length bytes ≤ line_limit) × (bytes_read bytes ≡ Refused why)
    × IsLineOf statuses.Line (codes "line refused: ") (refusal_of why) status text)
    ⊎ ((l : LineData) × (length bytes ≤ line_limit) × (bytes_read bytes ≡ Ready l) × IsLine l × IsSolved budget l status text))

ended : (files : Files) (before after : ℕ) (file : List ℕ) (budget : ℕ) (status : Status) (text : List ℕ)
    → status ≢ statuses.Read
    → SolveReply (reading (Some files) before after) file budget status text
    → IsEnd budget (bytes_of files file) file status text
ended files before after file budget status text unread is =
    ⊎_elim
    (⊎_elim (⊎_elim (λ (rose, (e, _)). absurd (unread e)) (λ (long, named). inl (long, named)))
    (λ (why, refused, named).
    inr (inl (
      why,
      subst (λ (bs : List ℕ). length bs ≤ line_limit) refused.file.told refused.file.small,
      subst (λ (bs : List ℕ). bytes_read bs ≡ Refused why) refused.file.told refused.read,
      named,
    ))))
    (λ (l, line, solved).
    inr (inr (
      l,
      subst (λ (bs : List ℕ). length bs ≤ line_limit) line.file.told line.file.small,
      subst (λ (bs : List ℕ). bytes_read bs ≡ Ready l) line.file.told line.read,
      line.valid,
      solved,
    )))
    is

abbrev pub line_or : LineData → LineRead → LineData
line_or other (Ready l) = l
line_or other (Refused why) = other

abbrev refusal_or : LineRead → List ℕ
refusal_or (Ready l) = []
refusal_or (Refused why) = codes "line refused: " ++ (refusal_of why ++ codes "\n")

apart : (bytes : List ℕ) → line_limit < length bytes → length bytes ≤ line_limit → ⊥
apart bytes long fits = omega (arith, long, fits)

pub not_both : (why : Why) (l : LineData) → Refused why ≡ Ready l → ⊥
not_both why l e = cc

abbrev AreSame : Status → Status → List ℕ → List ℕ → Type 0
AreSame status status' text text' = (status ≡ status') × (text ≡ text')

one_solved : (l : LineData) (budget : ℕ) (status status' : Status) (text text' : List ℕ) → IsLine l → budget ≤ 20000
    → IsSolved budget l status text → IsSolved budget l status' text' → AreSame status status' text text'
one_solved l budget status status' text text' valid small (a, solution, keeps, writable, e, printed) (a', solution', keeps', writable', e', printed') =
    let same : a ≡ a' = solution_is_one l budget a a' valid small solution solution' writable writable' in (
      e ∙ ap (λ (x : Answer). status_of x.verdict) same ∙ sym e',
      printed ∙ ap (λ (x : Answer). answer_text l x) same ∙ sym printed',
    )

one_end : (budget : ℕ) (bytes name : List ℕ) (status status' : Status) (text text' : List ℕ) → budget ≤ 20000
    → IsEnd budget bytes name status text → IsEnd budget bytes name status' text' → AreSame status status' text text'
one_end budget bytes name status status' text text' small is is' =
    ⊎_elim
    (λ (long, (e, t)).
    ⊎_elim (λ (_, (e', t')). (e ∙ sym e', t ∙ sym t'))
    (⊎_elim (λ (_, fits, _, _). absurd (apart bytes long fits)) (λ (_, fits, _, _, _). absurd (apart bytes long fits))) is')
    (⊎_elim
    (λ (why, fits, read, (e, t)).
    ⊎_elim (λ (long, _). absurd (apart bytes long fits))
    (⊎_elim (λ (why', _, read', (e', t')). (e ∙ sym e', t ∙ sym (ap refusal_or read) ∙ ap refusal_or read' ∙ sym t'))
    (λ (l, _, read', _, _). absurd (not_both why l (sym read ∙ read')))) is')
    (λ (l, fits, read, valid, solved).
    ⊎_elim (λ (long, _). absurd (apart bytes long fits))
    (⊎_elim (λ (why, _, read', _). absurd (not_both why l (sym read' ∙ read)))
    (λ (l', _, read', _, solved').
    let same : l' ≡ l = sym (ap (line_or l) read') ∙ ap (line_or l) read in
    one_solved l budget status status' text text' valid small solved (subst (λ (x : LineData). IsSolved budget x status' text') same solved')))
    is'))
    is

pub workers_do_not_matter : WorkersDoNotMatter
workers_do_not_matter files before after before' after' words words' file budget workers workers' status status' text text' asks asks'
    (request, has, reply) (request', has', reply') unread unread' =
    let r = reading (Some files) before after in
    let r' = reading (Some files) before' after' in
    one_end budget (bytes_of files file) file status status' text text' (small_budget _ budget asks.budget_is)
    (ended files before after file budget status text unread (replied r words file budget workers status text request asks has reply))
    (ended files before' after' file budget status' text' unread' (replied r' words' file budget workers' status' text' request' asks' has' reply'))
