-- The quickest of several rows.
use Rattle.std.proofs.Common.{◌≡◌, ℕ, suc, ◌+◌, ◌*◌, ◌<◌, ◌≤◌, ◌⊎◌, inl, inr, ⊎_elim, List, [], ◌∷◌, ◌++◌, length, take, get_or, Bool, true, false, cond, refl, sym, ap, subst, ◌∙◌}
use Rattle.std.proofs.Common.{arith, Option, Some, None}
use Rattle.std.proofs.Math.Seq.{take-suc}
use Rattle.std.proofs.lemmas.Bool.{ltb-true, ltb-false, cases_lt}
use Rattle.std.specs.List.{Contains}
use Rattle.std.proofs.Math.Nat.{mul_right_comm, mul-le-mul_right, mul-lt-mul_of_pos_right, lt_of_mul-lt-mul_right}
use Rattle.std.proofs.lemmas.List.{get_or-take, get_or_default, length-take, take_all}
use Rattle.std.proofs.lemmas.List.Elements.{Contains-push_cases, Contains-append_left, Contains-append_right}
use Rattle.list_facts.proofs.Elements.{contains_first}
use Rattle.answer_text.specs.declared.answer.Verdict.{Verdict}
use Rattle.answer_text.specs.declared.answer.Verdict.TheVariants.{Optimal, Nothing, Unfinished}
use Rattle.degree_sweep.specs.declared.best.Pace.{Pace}
use Rattle.degree_sweep.specs.declared.rows.DegreeRow.{DegreeRow}
use Rattle.degree_sweep.specs.Sweep.{IsOptimal, IsBefore, IsBestRow, NoneOptimal, IsBest}
use Rattle.degree_sweep.specs.Paces.{HavePeriods, HaveDegrees, pace_by, pace_of, is_less, quicker}

-- quicker than what is no slower than a third: quicker than the third
quicker_than : (bp bd ap ad op od : ℕ) → 1 ≤ od → bp * ad < ap * bd → ap * od ≤ op * ad → bp * od < op * bd
quicker_than bp bd ap ad op od some less most =
    let e = mul_right_comm bp od ad in
    let f = mul_right_comm ap bd od in
    let g = mul_right_comm op ad bd in
    let x : (bp * ad) * od < (ap * bd) * od = mul-lt-mul_of_pos_right less (omega (arith, some)) in
    let y : (ap * od) * bd ≤ (op * ad) * bd = mul-le-mul_right bd most in
    lt_of_mul-lt-mul_right ad (omega (arith, e, f, g, x, y))

pub at_most : (row other : DegreeRow) (p q : ℕ) → IsBefore row p other q → p * other.degree ≤ q * row.degree
at_most row other p q before = ⊎_elim (λ lt. omega (arith, lt)) (λ e. omega (arith, e.0)) before

pub some_is : (a b : ℕ) → Some a ≡ Some b → a ≡ b
some_is a b e = cc

-- what is quickest among these rows
abbrev pub IsQuickest : List DegreeRow → Option Pace → Type 0
IsQuickest rows None = NoneOptimal rows
IsQuickest rows (Some pace) = (row : DegreeRow) × IsBestRow rows row × (row.degree ≡ pace.degree) × (row.period ≡ Some pace.period)

-- the rows are numbered, and so the new one has the greatest degree
pub record IsNext (rows : List DegreeRow) (row : DegreeRow) : Type 0 where
  pub some : (other : DegreeRow) → Contains rows other → 1 ≤ other.degree
  pub rising : (other : DegreeRow) → Contains rows other → other.degree ≤ row.degree

-- a row that isn't optimal changes nothing
not_optimal : (rows : List DegreeRow) (best : Option Pace) (row : DegreeRow) → IsQuickest rows best
    → (row.verdict ≡ Optimal → ⊥) → IsQuickest (rows ++ row ∷ []) best
not_optimal rows None row is not = λ other has optimal.
    ⊎_elim (λ h. is other h optimal) (λ e. let P : DegreeRow → Type 0 = λ r. r.verdict
    ≡ Optimal in not (subst P (sym e) optimal)) (Contains-push_cases rows row other has)
not_optimal rows (Some pace) row (a, best, degree, period) not = (
  a,
  record {
    there = Contains-append_left rows (row ∷ []) a best.there;
    period = best.period;
    optimal = best.optimal;
    first = λ other q has optimal.
        ⊎_elim (λ h. best.first other q h optimal)
        (λ e. let P : DegreeRow → Type 0 = λ r. r.verdict ≡ Optimal in absurd (not (subst P (sym e) optimal.0))) (Contains-push_cases rows row other has);
  },
  degree,
  period,
)

-- the new row is best where it is before itself and all others
new_best : (rows : List DegreeRow) (row : DegreeRow) (period : ℕ) → IsOptimal row period
    → ((other : DegreeRow) (q : ℕ) → Contains rows other → IsOptimal other q → IsBefore row period other q)
    → IsBestRow (rows ++ row ∷ []) row
new_best rows row period optimal before = record {
  there = Contains-append_right rows (row ∷ []) row (contains_first row []);
  period = period;
  optimal = optimal;
  first = λ other q has is.
      ⊎_elim (λ h. before other q h is)
      (λ e.
      let P : DegreeRow → Type 0 = λ r. r.period ≡ Some q in
      let same : period ≡ q = some_is period q (sym optimal.1 ∙ subst P (sym e) is.1) in
      let degree : row.degree ≡ other.degree = ap (λ (r : DegreeRow). r.degree) e in
      inr (ap (λ (n : ℕ). n * other.degree) same ∙ ap (λ (n : ℕ). q * n) (sym degree), omega (arith, degree))) (Contains-push_cases rows row other has);
}

-- the best stays where the new row isn't quicker
stays_best : (rows : List DegreeRow) (row a : DegreeRow) (period : ℕ) (best : IsBestRow rows a) → IsOptimal row period
    → IsBefore a best.period row period
    → IsBestRow (rows ++ row ∷ []) a
stays_best rows row a period best optimal before = record {
  there = Contains-append_left rows (row ∷ []) a best.there;
  period = best.period;
  optimal = best.optimal;
  first = λ other q has is.
      ⊎_elim (λ h. best.first other q h is)
      (λ e.
      let P : DegreeRow → Type 0 = λ r. r.period ≡ Some q in
      let same : period ≡ q = some_is period q (sym optimal.1 ∙ subst P (sym e) is.1) in
      let B : ℕ → Type 0 = λ n. IsBefore a best.period other n in
      let O : DegreeRow → Type 0 = λ r. IsBefore a best.period r period in
      subst B same (subst O e before)) (Contains-push_cases rows row other has);
}

abbrev pace_with : DegreeRow → ℕ → Pace
pace_with row period = record { degree = row.degree; period = period }

either : (rows : List DegreeRow) (pace : Pace) (row : DegreeRow) (period : ℕ) (less : Bool)
    → is_less (pace_with row period) pace ≡ less → IsQuickest rows (Some pace)
    → IsNext rows row → IsOptimal row period
    → IsQuickest (rows ++ row ∷ []) (cond less (Some (pace_with row period)) (Some pace))
either rows pace row period true test (a, best, degree, has) next optimal =
    let same : best.period ≡ pace.period = some_is best.period pace.period (sym best.optimal.1 ∙ has) in
    let lt : period * pace.degree < pace.period * row.degree = ltb-true (period * pace.degree) (pace.period * row.degree) test in
    let d : period * a.degree ≡ period * pace.degree = ap (λ (n : ℕ). period * n) degree in
    let p : best.period * row.degree ≡ pace.period * row.degree = ap (λ (n : ℕ). n * row.degree) same in (
      row,
      new_best rows row period optimal
          (λ other q has is.
          inl (quicker_than period row.degree best.period a.degree q other.degree (next.some other has) (omega (arith, lt, d, p))
          (at_most a other best.period q (best.first other q has is)))),
      refl,
      optimal.1,
    )
either rows pace row period false test (a, best, degree, has) next optimal =
    let same : best.period ≡ pace.period = some_is best.period pace.period (sym best.optimal.1 ∙ has) in
    let le : pace.period * row.degree ≤ period * pace.degree = ltb-false (period * pace.degree) (pace.period * row.degree) test in
    let d : period * a.degree ≡ period * pace.degree = ap (λ (n : ℕ). period * n) degree in
    let p : best.period * row.degree ≡ pace.period * row.degree = ap (λ (n : ℕ). n * row.degree) same in
    let rising = next.rising a best.there in
    let before : IsBefore a best.period row period =
    ⊎_elim (λ lt. inl lt) (λ e. inr (e, rising)) (le_cases (best.period * row.degree) (period * a.degree) (omega (arith, le, d, p))) in
    (a, stays_best rows row a period best optimal before, degree, has)
  where
    le_cases : (m n : ℕ) → m ≤ n → (m < n) ⊎ (m ≡ n)
    le_cases m n h = ⊎_elim (λ lt. inl lt) (λ ge. inr (omega (arith, h, ge))) (cases_lt m n)

by_parts : (rows : List DegreeRow) (best : Option Pace) (row : DegreeRow) (v : Verdict) (p : Option ℕ) → row.verdict ≡ v
    → row.period ≡ p → IsQuickest rows best
    → IsNext rows row → (row.verdict ≡ Optimal → (period : ℕ) × (row.period ≡ Some period))
    → IsQuickest (rows ++ row ∷ []) (quicker best (pace_by v p row.degree))
by_parts rows None row Optimal (Some period) verdict has is next periods =
    (row, new_best rows row period (verdict, has) (λ other q there optimal. absurd (is other there optimal.0)), refl, has)
by_parts rows (Some pace) row Optimal (Some period) verdict has is next periods =
    either rows pace row period (is_less (pace_with row period) pace) refl is next (verdict, has)
by_parts rows best row Optimal None verdict has is next periods =
    let (period, e) = periods verdict in
    let no : Some period ≡ None = sym e ∙ has in
    absurd cc
by_parts rows None row Nothing p verdict has is next periods = not_optimal rows None row is (λ e. let no : Optimal ≡ Nothing = sym e ∙ verdict in absurd cc)
by_parts rows (Some pace) row Nothing p verdict has is next periods =
    not_optimal rows (Some pace) row is (λ e. let no : Optimal ≡ Nothing = sym e ∙ verdict in absurd cc)
by_parts rows None row Unfinished p verdict has is next periods =
    not_optimal rows None row is (λ e. let no : Optimal ≡ Unfinished = sym e ∙ verdict in absurd cc)
by_parts rows (Some pace) row Unfinished p verdict has is next periods =
    not_optimal rows (Some pace) row is (λ e. let no : Optimal ≡ Unfinished = sym e ∙ verdict in absurd cc)

-- ---- row after row

in_take : (rows : List DegreeRow) (i : ℕ) (other : DegreeRow) → HaveDegrees rows → Contains (take i rows) other
    → (1 ≤ other.degree) × (other.degree ≤ i) × Contains rows other
in_take rows i other degrees (k, lt, is) =
    let count = length-take i rows in
    let below : k < i = omega (arith, lt, count) in
    let within : k < length rows = omega (arith, lt, count) in
    let at : get_or rows k other ≡ other = sym (get_or-take i rows k other below) ∙ is in
    let degree : other.degree ≡ k + 1 = ap (λ (r : DegreeRow). r.degree) (sym at) ∙ degrees k other within in
    (omega (arith, degree), omega (arith, degree, below), (k, within, at))

-- the quickest of one row more
one_more : (rows : List DegreeRow) (best : Option Pace) (i : ℕ) (row : DegreeRow) → i < length rows
    → row ≡ get_or rows i row → HavePeriods rows → HaveDegrees rows
    → IsQuickest (take i rows) best → IsQuickest (take (i + 1) rows) (quicker best (pace_of row))
one_more rows best i row lt is periods degrees so_far =
    let degree : row.degree ≡ i + 1 = ap (λ (r : DegreeRow). r.degree) is ∙ degrees i row lt in
    let there : Contains rows row = (i, lt, sym is) in
    let grown : take (i + 1) rows ≡ take i rows ++ row ∷ [] =
    ap (λ (n : ℕ). take n rows) (let e : i + 1 ≡ suc i = omega arith in e) ∙ take-suc rows i row lt ∙ ap (λ (r : DegreeRow). take i rows ++ r ∷ []) (sym is) in
    let Q : List DegreeRow → Type 0 = λ rs. IsQuickest rs (quicker best (pace_of row)) in
    subst Q (sym grown)
    (by_parts (take i rows) best row row.verdict row.period refl refl so_far
    (record {
      some = λ other has. (in_take rows i other degrees has).0;
      rising = λ other has. let t = in_take rows i other degrees has in omega (arith, t.1, degree);
    })
    (periods row there))

-- the same of what was reckoned
pub next_row : (rows : List DegreeRow) (best : Option Pace) (i : ℕ) (none : DegreeRow) (pace new : Option Pace)
    → i < length rows → pace ≡ pace_of (get_or rows i none)
    → new ≡ quicker best pace → HavePeriods rows → HaveDegrees rows → IsQuickest (take i rows) best
    → IsQuickest (take (i + 1) rows) new
next_row rows best i none pace new lt pace_is new_is periods degrees so_far =
    let row = get_or rows i none in
    let Q : Option Pace → Type 0 = λ b. IsQuickest (take (i + 1) rows) b in
    subst Q (sym (new_is ∙ ap (quicker best) pace_is)) (one_more rows best i row lt (get_or_default rows i none row lt) periods degrees so_far)

-- the quickest of all rows tells the best degree
pub best_some : (rows : List DegreeRow) (best : Option Pace) (i : ℕ) (pace : Pace) → length rows ≤ i → best ≡ Some pace
    → IsQuickest (take i rows) best
    → IsBest rows (Some pace.degree)
best_some rows best i pace le is so_far =
    let Q : Option Pace → Type 0 = λ b. IsQuickest (take i rows) b in
    let R : List DegreeRow → Type 0 = λ rs. IsQuickest rs (Some pace) in
    let (row, first, degree, has) = subst R (take_all i rows le) (subst Q is so_far) in
    (row, first, degree)

pub best_none : (rows : List DegreeRow) (best : Option Pace) (i : ℕ) → length rows ≤ i → best ≡ None
    → IsQuickest (take i rows) best → IsBest rows None
best_none rows best i le is so_far =
    let Q : Option Pace → Type 0 = λ b. IsQuickest (take i rows) b in
    let R : List DegreeRow → Type 0 = λ rs. IsQuickest rs None in
    subst R (take_all i rows le) (subst Q is so_far)
