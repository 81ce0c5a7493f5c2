-- A solved path has one plan, and a line and a budget one answer.
use Rattle.std.proofs.Common.{⊎_elim, ◌≡◌, ℕ, ◌+◌, ◌*◌, ◌/◌, ◌%◌, ◌<◌, ◌≤◌, List, [], get_or, refl, sym, ◌∙◌, ap, subst, arith, pos, Option, Some, None}
use Rattle.std.specs.Prelude.{MatchOption, ⊤, ◌+ℤ◌}
use Rattle.std.proofs.lemmas.Int.{ints}
use Rattle.std.proofs.lemmas.Nat.{div-add-mod', mod_below}
use Rattle.hoist_base.specs.LineData.{LineData, move_number, move_count, last_stage, last_step, IsMove}
use Rattle.hoist_base.specs.Valid.{IsLine}
use Rattle.line_model.specs.Timetable.{Timetable, motion}
use Rattle.line_model.specs.Motion.{duration}
use Rattle.timetable.specs.TimetableData.{TimetableData, timetable_of, FitsLine, IsTimetableOf}
use Rattle.path_envelope.specs.Duties.{duties}
use Rattle.path_envelope.specs.Envelope.{IsLowestAt, AreLowest}
use Rattle.choice_tree.specs.declared.node.Node.{Node}
use Rattle.path_constraints.specs.Ticks.{tick_at}
use Rattle.node_expand.specs.declared.solved.Solved.{Solved}
use Rattle.node_expand.proofs.FloorLemmas.{carrier_there, node_is, node_move}
use Rattle.branch_rounds.specs.declared.outcome.Outcome.{Outcome}
use Rattle.branch_rounds.specs.ExpansionLemmas.{same_numbers}
use Rattle.branch_rounds.proofs.OneLemmas.{search_is_one}
use Rattle.planning.specs.Planned.{IsPlan}
use Rattle.answer_text.specs.declared.answer.Verdict.{Verdict}
use Rattle.answer_text.specs.declared.answer.Answer.{Answer}
use Rattle.answer_text.specs.Answers.{HasSmallPath}
use Rattle.solve_line.specs.AnswerOf.{verdict_of, IsPlanOr, IsAnswerOf}
use Rattle.solve_line.specs.Laws.{SolutionIsOne}

-- ---- the starts

start_at : (l : LineData) (s : Solved) (d : TimetableData) (c k : ℕ) → IsPlan l s d → FitsLine l d → IsMove l c k
    → pos (get_or d.start (move_number l c k) 0) ≡ tick_at s.ticks (move_number l c k) +ℤ pos l.load
start_at l s d c k plan fits move =
    sym (ap (λ (n : ℕ). pos (get_or d.start (c * n + k) 0)) fits.steps) ∙ plan.start c k move

starts_are_one : (l : LineData) (s : Solved) (d d' : TimetableData) → IsLine l → IsPlan l s d → IsPlan l s d'
    → FitsLine l d → FitsLine l d' → d.start ≡ d'.start
starts_are_one l s d d' line plan plan' fits fits' =
    same_numbers d.start d'.start (fits.start_count ∙ sym fits'.start_count)
    (λ i lt.
    let there : i < move_count l = omega (arith, lt, fits.start_count) in
    let c = i / last_stage l in
    let k = i % last_stage l in
    let m = node_move l i line there in
    let P : ℕ → Type 0 = λ n. get_or d.start n 0 ≡ get_or d'.start n 0 in
    let same : pos (get_or d.start (move_number l c k) 0) ≡ pos (get_or d'.start (move_number l c k) 0) = start_at l s d
    c k plan fits m ∙ sym (start_at l s d' c k plan' fits' m) in
    subst P (sym (node_is l i (omega (arith, line.limits.stages.0)))) (omega (arith, ints, same)))

-- ---- puts and offs, by steps, starts and tanks

abbrev put_of : LineData → ℕ → ℕ → List ℕ → ℕ
put_of l c steps starts = get_or starts (c * steps + 0) 0

abbrev parts : ℕ → List ℕ → List ℕ → TimetableData
parts steps starts tanks = record { period = 0; steps = steps; put = []; off = []; start = starts; hoist = []; path = []; tank = tanks }

abbrev off_of : LineData → ℕ → TimetableData → ℕ
off_of l c d = (timetable_of d).start c (last_step l) + duration (motion l (timetable_of d) c (last_step l)) + l.unload

puts_are_one : (l : LineData) (s : Solved) (d d' : TimetableData) → IsPlan l s d → IsPlan l s d' → FitsLine l d
    → FitsLine l d' → d.steps ≡ d'.steps → d.start ≡ d'.start → d.put ≡ d'.put
puts_are_one l s d d' plan plan' fits fits' steps starts =
    same_numbers d.put d'.put (fits.put_count ∙ sym fits'.put_count)
    (λ c lt.
    let there : c < l.degree = omega (arith, lt, fits.put_count) in
    let same : put_of l c d.steps d.start ≡ put_of l c d'.steps d'.start = ap (λ (n : ℕ). put_of l c n d.start) steps
    ∙ ap (λ (xs : List ℕ). put_of l c d'.steps xs) starts in
    omega (arith, plan.put c there, plan'.put c there, same))

offs_are_one : (l : LineData) (s : Solved) (d d' : TimetableData) → IsPlan l s d → IsPlan l s d' → FitsLine l d
    → FitsLine l d' → d.steps ≡ d'.steps → d.start ≡ d'.start → d.tank ≡ d'.tank → d.off ≡ d'.off
offs_are_one l s d d' plan plan' fits fits' steps starts tanks =
    same_numbers d.off d'.off (fits.off_count ∙ sym fits'.off_count)
    (λ c lt.
    let there : c < l.degree = omega (arith, lt, fits.off_count) in
    let same : off_of l c (parts d.steps d.start d.tank) ≡ off_of l c (parts d'.steps d'.start d'.tank) =
    ap (λ (n : ℕ). off_of l c (parts n d.start d.tank)) steps ∙ ap (λ (xs : List ℕ). off_of l c (parts d'.steps xs d.tank)) starts
    ∙ ap (λ (xs : List ℕ). off_of l c (parts d'.steps d'.start xs)) tanks in
    plan.off c there ∙ same ∙ sym (plan'.off c there))

-- ---- the paths

not_above : (l : LineData) (p : Timetable) (h t a b : ℕ) → IsLowestAt l p h t a → IsLowestAt l p h t b → a ≤ b
not_above l p h t a b low other =
    ⊎_elim (λ e. omega (arith, e, other.room)) (λ x. other.forced x.0 a x.1) low.some

lowest_are_one : (l : LineData) (p : Timetable) (rows rows' : List ℕ) → IsLine l → 1 ≤ p.period → AreLowest l p rows
    → AreLowest l p rows' → rows ≡ rows'
lowest_are_one l p rows rows' line some low other =
    same_numbers rows rows' (low.count ∙ sym other.count)
    (λ i lt.
    let h = i / p.period in
    let t = i % p.period in
    let there : h < l.hoists = carrier_there i l.hoists p.period some (omega (arith, lt, low.count)) in
    let within : t < p.period = mod_below i p.period some in
    let a = low.lowest h t there within in
    let b = other.lowest h t there within in
    let P : ℕ → Type 0 = λ n. get_or rows n 0 ≡ get_or rows' n 0 in
    let is : i ≡ h * p.period + t = omega (arith, div-add-mod' i p.period) in
    let at = get_or rows (h * p.period + t) 0 in
    let at' = get_or rows' (h * p.period + t) 0 in
    subst P (sym is) (omega (arith, not_above l p h t at at' a b, not_above l p h t at' at b a)))

-- ---- the plan

abbrev data_by : ℕ → ℕ → List ℕ → List ℕ → List ℕ → List ℕ → List ℕ → List ℕ → TimetableData
data_by period steps put off start hoist path tank =
    record { period = period; steps = steps; put = put; off = off; start = start; hoist = hoist; path = path; tank = tank }

plan_is_one : (l : LineData) (s : Solved) (d d' : TimetableData) → IsLine l → IsPlan l s d → IsPlan l s d'
    → IsTimetableOf l d → IsTimetableOf l d' → d ≡ d'
plan_is_one l s d d' line plan plan' is is' =
    let period = plan.period ∙ sym plan'.period in
    let steps = is.fits.steps ∙ sym is'.fits.steps in
    let tank = plan.tanks ∙ sym plan'.tanks in
    let hoist = plan.hoists ∙ sym plan'.hoists in
    let start = starts_are_one l s d d' line plan plan' is.fits is'.fits in
    let put = puts_are_one l s d d' plan plan' is.fits is'.fits steps start in
    let off = offs_are_one l s d d' plan plan' is.fits is'.fits steps start tank in
    let L : List ℕ → Type 0 = λ xs. AreLowest l (duties l s.tanks s.period xs s.hoists) d'.path in
    let some : 1 ≤ s.period = omega (arith, is.period, plan.period) in
    let path = lowest_are_one l (duties l s.tanks s.period d.start s.hoists) d.path d'.path line some plan.paths (subst L (sym start) plan'.paths) in
    ap (λ (n : ℕ). data_by n d.steps d.put d.off d.start d.hoist d.path d.tank) period
    ∙ ap (λ (n : ℕ). data_by d'.period n d.put d.off d.start d.hoist d.path d.tank) steps
    ∙ ap (λ (xs : List ℕ). data_by d'.period d'.steps xs d.off d.start d.hoist d.path d.tank) put
    ∙ ap (λ (xs : List ℕ). data_by d'.period d'.steps d'.put xs d.start d.hoist d.path d.tank) off
    ∙ ap (λ (xs : List ℕ). data_by d'.period d'.steps d'.put d'.off xs d.hoist d.path d.tank) start
    ∙ ap (λ (xs : List ℕ). data_by d'.period d'.steps d'.put d'.off d'.start xs d.path d.tank) hoist
    ∙ ap (λ (xs : List ℕ). data_by d'.period d'.steps d'.put d'.off d'.start d'.hoist xs d.tank) path
    ∙ ap (λ (xs : List ℕ). data_by d'.period d'.steps d'.put d'.off d'.start d'.hoist d'.path xs) tank

-- ---- the answer

abbrev AreWritten : LineData → Option TimetableData → Type 0
AreWritten l t = MatchOption t ⊤ (λ d. IsTimetableOf l d × HasSmallPath d)

timetable_is_one : (l : LineData) (best : Option Solved) (t t' : Option TimetableData) → IsLine l → IsPlanOr l best t
    → IsPlanOr l best t' → AreWritten l t → AreWritten l t' → t ≡ t'
timetable_is_one l None None None line plan plan' is is' = refl
timetable_is_one l None None (Some d') line plan plan' is is' = absurd plan'
timetable_is_one l None (Some d) t' line plan plan' is is' = absurd plan
timetable_is_one l (Some s) None t' line plan plan' is is' = absurd plan
timetable_is_one l (Some s) (Some d) None line plan plan' is is' = absurd plan'
timetable_is_one l (Some s) (Some d) (Some d') line plan plan' is is' = ap (λ (x : TimetableData). Some x) (plan_is_one l s d d' line plan plan' is.0 is'.0)

abbrev answer_by : Verdict → ℕ → ℕ → Option TimetableData → List Node → Answer
answer_by verdict bound splits timetable tree = record { verdict = verdict; bound = bound; splits = splits; timetable = timetable; tree = tree }

-- all of an answer but its timetable is its outcome's
answer_of : (l : LineData) (o : Outcome) (a : Answer) → IsAnswerOf l o a
    → a ≡ answer_by (verdict_of o) o.bound o.splits a.timetable o.tree
answer_of l o a is =
    ap (λ (v : Verdict). answer_by v a.bound a.splits a.timetable a.tree) is.verdict
    ∙ ap (λ (n : ℕ). answer_by (verdict_of o) n a.splits a.timetable a.tree) is.bound
    ∙ ap (λ (n : ℕ). answer_by (verdict_of o) o.bound n a.timetable a.tree) is.splits
    ∙ ap (λ (ns : List Node). answer_by (verdict_of o) o.bound o.splits a.timetable ns) is.tree

pub solution_is_one : SolutionIsOne
solution_is_one l budget a a' line small (o, grown, is) (o', grown', is') written written' =
    let same : o' ≡ o = search_is_one l budget o' o line small grown' grown in
    let A : Outcome → Type 0 = λ x. IsAnswerOf l x a' in
    let here : IsAnswerOf l o a' = subst A same is' in
    let timetable = timetable_is_one l o.best a.timetable a'.timetable line is.timetable here.timetable written.timetable written'.timetable in
    answer_of l o a is ∙ ap (λ (t : Option TimetableData). answer_by (verdict_of o) o.bound o.splits t o.tree) timetable ∙ sym (answer_of l o a' here)
