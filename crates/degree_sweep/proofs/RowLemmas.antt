-- What follows of rows with all that the search shows.
use Rattle.std.proofs.Common.{◌≡◌, ℕ, zero, suc, ◌+◌, ◌*◌, ◌-◌, ◌<◌, ◌≤◌, ⊎_elim, List, [], ◌∷◌, ◌++◌, length, get_or, true, refl, sym, ap, subst, ◌∙◌, arith}
use Rattle.std.proofs.Common.{Option, Some, None}
use Rattle.std.specs.List.{Contains}
use Rattle.std.proofs.Math.Nat.{mul-le-mul_right}
use Rattle.std.proofs.lemmas.Bool.{cases_lt}
use Rattle.std.proofs.lemmas.List.{get_or_append_left, get_or_push, get_or_default, ext_get_or, length-append}
use Rattle.std.proofs.lemmas.List.Sums.{AllPass-from_list_all}
use Rattle.hoist_base.specs.LineData.{LineData}
use Rattle.hoist_base.specs.Limits.{max_degree}
use Rattle.hoist_base.specs.Valid.{IsLine}
use Rattle.hoist_base.proofs.RouteLemmas.{of_degree_line}
use Rattle.line_model.specs.Timetable.{Timetable}
use Rattle.line_model.specs.Legal.{IsLegal, NoneBelow}
use Rattle.node_expand.specs.declared.solved.Solved.{Solved}
use Rattle.branch_rounds.specs.declared.outcome.Outcome.{Outcome}
use Rattle.branch_rounds.specs.Grown.{cap_of}
use Rattle.branch_rounds.proofs.OneLemmas.{search_is_one}
use Rattle.answer_text.specs.declared.answer.Verdict.{Verdict}
use Rattle.answer_text.specs.declared.answer.Verdict.TheVariants.{Optimal, Nothing, Unfinished}
use Rattle.solve_line.specs.AnswerOf.{verdict_by, verdict_of}
use Rattle.degree_sweep.specs.declared.rows.DegreeRow.{DegreeRow}
use Rattle.degree_sweep.specs.declared.swept.Swept.{Swept}
use Rattle.degree_sweep.specs.Sweep.{with_degree, period_of, IsRow, AreRows, IsOptimal, IsBest}
use Rattle.degree_sweep.specs.Claims.{AreBounds, is_known, is_settled, IsLeastSwept}
use Rattle.degree_sweep.specs.Laws.{SweepIsOne}
use Rattle.degree_sweep.specs.Paces.{HavePeriods, HaveDegrees}
use Rattle.degree_sweep.specs.Shown.{IsShown, AreShown}
use Rattle.degree_sweep.proofs.PaceLemmas.{at_most, some_is}

-- ---- one row more

pub shown_more : (l : LineData) (budget i : ℕ) (rows : List DegreeRow) (row : DegreeRow) → length rows ≡ i
    → AreShown l budget rows → IsShown l budget (i + 1) row
    → AreShown l budget (rows ++ row ∷ [])
shown_more l budget i rows row count shown new k none lt =
    let long = length-append rows (row ∷ []) in
    ⊎_elim
    (λ below.
    let P : DegreeRow → Type 0 = λ r. IsShown l budget (k + 1) r in
    subst P (sym (get_or_append_left rows (row ∷ []) none k below)) (shown k none below))
    (λ past.
    let at : length rows ≡ k = omega (arith, long, lt, past) in
    let P : DegreeRow → Type 0 = λ r. IsShown l budget (k + 1) r in
    let Q : ℕ → Type 0 = λ n. IsShown l budget (n + 1) row in
    subst P (sym (get_or_push rows row none k at)) (subst Q (sym count ∙ at) new))
    (cases_lt k (length rows))

-- ---- what one row shows

-- an optimal row has a period, which is its bound
optimal_by : (l : LineData) (left bound : ℕ) (best : Option Solved) → verdict_by left best ≡ Optimal
    → (left ≡ 0 → bound ≡ cap_of l best)
    → (period : ℕ) × (period_of best ≡ Some period) × (bound ≡ period)
optimal_by l zero bound (Some s) e whole = (s.period, refl, whole refl)
optimal_by l zero bound None e whole = absurd cc
optimal_by l (suc left) bound best e whole = absurd cc

-- where there is none, the bound is above all periods of the line
nothing_by : (l : LineData) (left bound : ℕ) (best : Option Solved) → verdict_by left best ≡ Nothing
    → (left ≡ 0 → bound ≡ cap_of l best)
    → bound ≡ l.max_period + 1
nothing_by l zero bound (Some s) e whole = absurd cc
nothing_by l zero bound None e whole = whole refl
nothing_by l (suc left) bound best e whole = absurd cc

optimal_shown : (l : LineData) (budget degree : ℕ) (row : DegreeRow) → IsShown l budget degree row
    → row.verdict ≡ Optimal
    → (period : ℕ) × (row.period ≡ Some period) × (row.bound ≡ period)
optimal_shown l budget degree row shown optimal =
    let o = shown.outcome in
    let (period, has, is) = optimal_by (with_degree l degree) o.left o.bound o.best (sym shown.verdict ∙ optimal) shown.searched.whole in
    (period, shown.period ∙ has, shown.bound ∙ is)

-- ---- what all rows show

placed : (l : LineData) (budget : ℕ) (rows : List DegreeRow) (row : DegreeRow) → AreShown l budget rows
    → Contains rows row
    → (i : ℕ) × (i < length rows) × IsShown l budget (i + 1) row
placed l budget rows row shown (i, lt, is) =
    let P : DegreeRow → Type 0 = λ r. IsShown l budget (i + 1) r in
    (i, lt, subst P is (shown i row lt))

pub have_periods : (l : LineData) (budget : ℕ) (rows : List DegreeRow) → AreShown l budget rows → HavePeriods rows
have_periods l budget rows shown = λ row has optimal.
    let (i, lt, one) = placed l budget rows row shown has in
    let (period, is, bound) = optimal_shown l budget (i + 1) row one optimal in
    (period, is)

pub have_degrees : (l : LineData) (budget : ℕ) (rows : List DegreeRow) → AreShown l budget rows → HaveDegrees rows
have_degrees l budget rows shown = λ i none lt. (shown i none lt).degree

pub are_rows : (l : LineData) (upto budget : ℕ) (rows : List DegreeRow) → length rows ≡ upto → AreShown l budget rows
    → AreRows l upto budget rows
are_rows l upto budget rows count shown = record {
  count = count;
  each = λ i none lt.
      let s = shown i none (omega (arith, lt, count)) in
      record {
        outcome = s.outcome;
        grown = s.searched.grown;
        degree = s.degree;
        verdict = s.verdict;
        bound = s.bound;
        splits = s.splits;
        period = s.period;
      };
}

bound_shown : (l : LineData) (budget degree : ℕ) (row : DegreeRow) → IsShown l budget degree row
    → NoneBelow (with_degree l degree) row.bound
bound_shown l budget degree row shown = λ t legal. omega (arith, shown.searched.none_below t legal, shown.bound)

pub are_bounds : (l : LineData) (budget : ℕ) (rows : List DegreeRow) → AreShown l budget rows → AreBounds l rows
are_bounds l budget rows shown = λ row has.
    let (i, lt, one) = placed l budget rows row shown has in
    let N : ℕ → Type 0 = λ d. NoneBelow (with_degree l d) row.bound in
    subst N (sym one.degree) (bound_shown l budget (i + 1) row one)

-- ---- the best of a settled sweep

-- the row of a degree
row_at : (l : LineData) (budget degree : ℕ) (rows : List DegreeRow) → AreShown l budget rows → 1 ≤ degree
    → degree ≤ length rows
    → (row : DegreeRow) × Contains rows row × IsShown l budget degree row
row_at l budget degree [] shown some most = absurd (omega (arith, some, most))
row_at l budget degree (r ∷ rows) shown some most =
    let i = degree - 1 in
    let lt : i < length (r ∷ rows) = omega (arith, some, most) in
    let row = get_or (r ∷ rows) i r in
    let is : i + 1 ≡ degree = omega (arith, some) in
    let S : ℕ → Type 0 = λ d. IsShown l budget d row in
    (row, (i, lt, get_or_default (r ∷ rows) i row r lt), subst S is (shown i r lt))

-- by the verdict of the row of a timetable's degree
settled_by : (l : LineData) (budget degree : ℕ) (row best : DegreeRow) (period : ℕ) (t : Timetable) (v : Verdict)
    → row.verdict ≡ v → is_known v ≡ true
    → IsShown l budget degree row → ((q : ℕ) → IsOptimal row q → period * row.degree ≤ q * best.degree)
    → IsLegal (with_degree l degree) t → t.period ≤ l.max_period → period * degree ≤ t.period * best.degree
settled_by l budget degree row best period t Optimal verdict known shown before legal small =
    let (q, has, is) = optimal_shown l budget degree row shown verdict in
    let least : q ≤ t.period = omega (arith, bound_shown l budget degree row shown t legal, is) in
    let most = before q (verdict, has) in
    let more = mul-le-mul_right best.degree least in
    let same : period * row.degree ≡ period * degree = ap (λ (n : ℕ). period * n) shown.degree in
    omega (arith, most, more, same)
settled_by l budget degree row best period t Nothing verdict known shown before legal small =
    let o = shown.outcome in
    let above = nothing_by (with_degree l degree) o.left o.bound o.best (sym shown.verdict ∙ verdict) shown.searched.whole in
    absurd (omega (arith, shown.searched.none_below t legal, above, small))
settled_by l budget degree row best period t Unfinished verdict known shown before legal small = absurd cc

same_degree : (l : LineData) (budget : ℕ) (rows : List DegreeRow) (a b : DegreeRow) → AreShown l budget rows
    → Contains rows a → Contains rows b
    → a.degree ≡ b.degree → a ≡ b
same_degree l budget rows a b shown (i, lt, is) (k, lt', is') same =
    let P : DegreeRow → Type 0 = λ r. r.degree ≡ i + 1 in
    let Q : DegreeRow → Type 0 = λ r. r.degree ≡ k + 1 in
    let da : a.degree ≡ i + 1 = subst P is (shown i a lt).degree in
    let db : b.degree ≡ k + 1 = subst Q is' (shown k b lt').degree in
    let at : i ≡ k = omega (arith, da, db, same) in
    sym is ∙ ap (λ (n : ℕ). get_or rows n a) at ∙ get_or_default rows k a b lt' ∙ is'

all_known : (rows : List DegreeRow) (row : DegreeRow) → is_settled rows ≡ true → Contains rows row
    → is_known row.verdict ≡ true
all_known rows row settled (k, lt, is) =
    let P : DegreeRow → Type 0 = λ r. is_known r.verdict ≡ true in
    subst P is (AllPass-from_list_all (λ (r : DegreeRow). is_known r.verdict) rows settled k row lt)

pub is_least : (l : LineData) (upto budget : ℕ) (swept : Swept) → length swept.rows ≡ upto
    → AreShown l budget swept.rows → IsBest swept.rows swept.best
    → IsLeastSwept l upto swept
is_least l upto budget swept count shown is = λ best period row settled has there degree period_is d t some most legal small.
    let B : Option ℕ → Type 0 = λ b. IsBest swept.rows b in
    let (a, first, best_is) = subst B has is in
    let one : a ≡ row = same_degree l budget swept.rows a row shown first.there there (best_is ∙ sym degree) in
    let period_same : first.period ≡ period = some_is first.period period (sym first.optimal.1 ∙ ap (λ (r : DegreeRow). r.period) one ∙ period_is) in
    let (r, here, one_shown) = row_at l budget d swept.rows shown some (omega (arith, most, count)) in
    let known : is_known r.verdict ≡ true = all_known swept.rows r settled here in
    let done = settled_by l budget d r a first.period t r.verdict refl known one_shown
    (λ q optimal. at_most a r first.period q (first.first r q here optimal)) legal small in
    let x : first.period * d ≡ period * d = ap (λ (n : ℕ). n * d) period_same in
    let y : t.period * a.degree ≡ t.period * best = ap (λ (n : ℕ). t.period * n) best_is in
    omega (arith, done, x, y)

-- ---- one sweep

abbrev row_by : ℕ → Verdict → ℕ → ℕ → Option ℕ → DegreeRow
row_by degree verdict bound splits period = record { degree = degree; verdict = verdict; bound = bound; splits = splits; period = period }

row_of : (l : LineData) (budget degree : ℕ) (row : DegreeRow) (is : IsRow l budget degree row)
    → row ≡ row_by degree (verdict_of is.outcome) is.outcome.bound is.outcome.splits (period_of is.outcome.best)
row_of l budget degree row is =
    let o = is.outcome in
    ap (λ (n : ℕ). row_by n row.verdict row.bound row.splits row.period) is.degree
    ∙ ap (λ (v : Verdict). row_by degree v row.bound row.splits row.period) is.verdict
    ∙ ap (λ (n : ℕ). row_by degree (verdict_of o) n row.splits row.period) is.bound
    ∙ ap (λ (n : ℕ). row_by degree (verdict_of o) o.bound n row.period) is.splits
    ∙ ap (λ (p : Option ℕ). row_by degree (verdict_of o) o.bound o.splits p) is.period

row_is_one : (l : LineData) (budget degree : ℕ) (row row' : DegreeRow) → IsLine l → 1 ≤ degree → degree ≤ max_degree
    → budget ≤ 20000 → IsRow l budget degree row
    → IsRow l budget degree row' → row ≡ row'
row_is_one l budget degree row row' line some most small is is' =
    let valid = of_degree_line l degree line (some, most) in
    let same : is.outcome ≡ is'.outcome = search_is_one (with_degree l degree) budget is.outcome is'.outcome valid small is.grown is'.grown in
    row_of l budget degree row is
    ∙ ap (λ (o : Outcome). row_by degree (verdict_of o) o.bound o.splits (period_of o.best)) same
    ∙ sym (row_of l budget degree row' is')

rows_are_one : (l : LineData) (upto budget : ℕ) (rows rows' : List DegreeRow) → IsLine l → upto ≤ max_degree
    → budget ≤ 20000 → AreRows l upto budget rows
    → AreRows l upto budget rows' → rows ≡ rows'
rows_are_one l upto budget rows rows' line most small are are' =
    let none : DegreeRow = row_by 0 Nothing 0 0 None in
    ext_get_or none rows rows' (are.count ∙ sym are'.count)
    (λ i lt.
    let there : i < upto = omega (arith, lt, are.count) in
    row_is_one l budget (i + 1) (get_or rows i none) (get_or rows' i none) line (omega arith) (omega (arith, there, most)) small (are.each i none there)
    (are'.each i none there))

best_is_one : (rows : List DegreeRow) (b b' : Option ℕ) → IsBest rows b → IsBest rows b' → b ≡ b'
best_is_one rows None None is is' = refl
best_is_one rows None (Some d) is (row, best, degree) = absurd (is row best.there best.optimal.0)
best_is_one rows (Some d) None (row, best, degree) is' = absurd (is' row best.there best.optimal.0)
best_is_one rows (Some d) (Some d') (a, best, degree) (b, best', degree') =
    let one = best.first b best'.period best'.there best'.optimal in
    let two = best'.first a best.period best.there best.optimal in
    let same : a.degree ≡ b.degree =
    ⊎_elim (λ lt. absurd (omega (arith, lt, at_most b a best'.period best.period two)))
    (λ e. ⊎_elim (λ lt. absurd (omega (arith, lt, e.0))) (λ f. omega (arith, e.1, f.1)) two) one in
    ap (λ (n : ℕ). Some n) (sym degree ∙ same ∙ degree')

pub sweep_is_one : SweepIsOne
sweep_is_one l upto budget s s' line most small is is' =
    let rows : s.rows ≡ s'.rows = rows_are_one l upto budget s.rows s'.rows line most small is.rows is'.rows in
    let B : List DegreeRow → Type 0 = λ rs. IsBest rs s'.best in
    let best : s.best ≡ s'.best = best_is_one s.rows s.best s'.best is.best (subst B (sym rows) is'.best) in
    ap (λ (rs : List DegreeRow). swept_by rs s.best) rows ∙ ap (λ (b : Option ℕ). swept_by s'.rows b) best
  where
    swept_by : List DegreeRow → Option ℕ → Swept
    swept_by rs b = record { rows = rs; best = b }
