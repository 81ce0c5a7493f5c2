-- How many constraints there are: two for each pair of moves, and two for few of the pairs of visits, since no two
-- stages in a row have a tank in common.
use Rattle.std.proofs.Common.{⊎_elim, ◌⊎◌, inl, inr, ◌≡◌, ℕ, zero, suc, ◌+◌, ◌-◌, ◌*◌, ◌/◌, ◌%◌, ◌<◌, ◌≤◌, List, [], ◌++◌, length, refl, sym, ◌∙◌, ap, subst, arith, Some, None, Bool, cond, eq-eqb}
use Rattle.std.specs.Prelude.{Option}
use Rattle.std.proofs.lemmas.Bool.{cases_lt, cases_eq, ne_eqb, lt-ltb, le-ltb}
use Rattle.std.proofs.lemmas.Nat.{div-add-mod', mod_below, mul-le}
use Rattle.std.proofs.lemmas.List.{length-append, length-map}
use Rattle.hoist_base.specs.LineData.{LineData, last_stage, move_count, move_at, visit_count, visit_at}
use Rattle.hoist_base.specs.declared.ids.MoveId.{MoveId}
use Rattle.hoist_base.specs.Valid.{IsLine}
use Rattle.line_model.specs.Timetable.{Timetable}
use Rattle.line_model.specs.Legal.{IsLegal}
use Rattle.longest_path.specs.declared.systems.Arc.{Arc}
use Rattle.collision_pairs.specs.declared.span.Span.{Span}
use Rattle.choice_tree.specs.declared.question.Decision.{Decision}
use Rattle.choice_tree.specs.declared.constraint.Constraint.{Constraint}
use Rattle.path_constraints.specs.Constraints.{arc_of, undecided_list}
use Rattle.path_constraints.proofs.PlaceLemmas.{length_undecided}
use Rattle.path_constraints.proofs.BaseLemmas.{undecided_small}
use Rattle.window_margin.specs.Orders.{own_clash, visit_order}
use Rattle.window_margin.specs.Arcs.{share_of, at_period, rows_below, ordered_visits, visit_pair, spanned_moves, move_pair, visit_row, visit_arcs, move_row, move_arcs, undecided_arcs, margin_arcs}
use Rattle.window_margin.proofs.KeepLemmas.{in_row}

-- ---- rows in a triangle

-- rows that get shorter one by one, with some more in each
triangle : (row : ℕ → List Arc) (n more step m : ℕ) → ((i : ℕ) → i < n → length (row i) ≤ step * (n - (i + 1)) + more)
    → m ≤ n
    → length (rows_below row m) + length (rows_below row m) + step * ((n - m) * (n - m)) ≤ step * (n * n) + 2 * (m * more)
triangle row n more step zero h le =
    let e : n - 0 ≡ n = omega arith in
    let same : step * ((n - 0) * (n - 0)) ≡ step * (n * n) = ap (λ (x : ℕ). step * (x * x)) e in
    omega (arith, same)
triangle row n more step (suc m) h le =
    let d : ℕ = n - suc m in
    let e : n - m ≡ suc d = omega (arith, le) in
    let e' : n - (m + 1) ≡ d = omega arith in
    let before = triangle row n more step m h (omega (arith, le)) in
    let split = length-append (rows_below row m) (row m) in
    let one : step * ((n - m) * (n - m)) ≡ step * (suc d * suc d) = ap (λ (x : ℕ). step * (x * x)) e in
    let last : length (row m) ≤ step * d + more = subst (λ (x : ℕ). length (row m) ≤ step * x + more) e' (h m (omega (arith, le))) in
    square (length (rows_below row (suc m))) (length (rows_below row m)) (length (row m)) step d (n * n) m more
    (step * ((n - m) * (n - m))) split one before last
  where
    square : (l' l r s d nn m more x : ℕ) → l' ≡ l + r → x ≡ s * (suc d * suc d) → l + l + x ≤ s * nn + 2 * (m * more)
        → r ≤ s * d + more
        → l' + l' + s * (d * d) ≤ s * nn + 2 * (suc m * more)
    square l' l r s d nn m more x e f h k = omega (arith, e, f, h, k)

-- ---- pairs of moves

most_two : (l : LineData) (p : Timetable) (a b : MoveId) (o : Option Span) → length (spanned_moves l p a b o) ≤ 2
most_two l p a b None = omega arith
most_two l p a b (Some span) = omega arith

row_moves : (l : LineData) (p : Timetable) (i j : ℕ) → length (move_row l p i j) ≤ 2
row_moves l p i j =
    let L = move_pair l p (move_at l i) (move_at l j) in
    ⊎_elim (λ lt. subst (λ (b : Bool). length (cond b L []) ≤ 2) (sym (lt-ltb i j lt))
    (most_two l p (move_at l i) (move_at l j) (own_clash l p (move_at l i) (move_at l j))))
    (λ le. subst (λ (b : Bool). length (cond b L []) ≤ 2) (sym (le-ltb i j le)) (omega arith))
    (cases_lt i j)

none_moves : (l : LineData) (p : Timetable) (i j : ℕ) → j ≤ i → length (move_row l p i j) ≡ 0
none_moves l p i j le =
    let L = move_pair l p (move_at l i) (move_at l j) in
    ap (λ (b : Bool). length (cond b L [])) (le-ltb i j le)

long_moves : (l : LineData) (p : Timetable) (i m : ℕ) → length (rows_below (move_row l p i) m) ≤ 2 * (m - (i + 1))
long_moves l p i zero = omega arith
long_moves l p i (suc m) =
    let split = length-append (rows_below (move_row l p i) m) (move_row l p i m) in
    let before = long_moves l p i m in
    ⊎_elim (λ lt. omega (arith, split, before, row_moves l p i m, lt)) (λ le. omega (arith, split, before, none_moves l p i m le)) (cases_lt i m)

-- ---- pairs of visits

row_visits : (l : LineData) (p : Timetable) (i j : ℕ)
    → (length (visit_row l p i j) ≡ 0)
    ⊎ ((length (visit_row l p i j) ≡ 2) × (i < j) × (p.tank (visit_at l i).carrier (visit_at l i).stage ≡ p.tank (visit_at l j).carrier (visit_at l j).stage))
row_visits l p i j =
    let a = visit_at l i in
    let b = visit_at l j in
    let L = visit_pair l p a b in
    let O = ordered_visits l p a b (visit_order l p a b) in
    ⊎_elim
    (λ lt.
    let here : length (visit_row l p i j) ≡ length L = ap (λ (x : Bool). length (cond x L [])) (lt-ltb i j lt) in
    ⊎_elim (λ same. inr (here ∙ ap (λ (x : Bool). length (cond x O [])) (eq-eqb (p.tank a.carrier a.stage) (p.tank b.carrier b.stage) same), lt, same))
    (λ differ. inl (here ∙ ap (λ (x : Bool). length (cond x O [])) (ne_eqb (p.tank a.carrier a.stage) (p.tank b.carrier b.stage) differ)))
    (cases_eq (p.tank a.carrier a.stage) (p.tank b.carrier b.stage)))
    (λ le. inl (ap (λ (x : Bool). length (cond x L [])) (le-ltb i j le)))
    (cases_lt i j)

-- two visits in a row by one carrier have other tanks
next_differs : (l : LineData) (p : Timetable) (j : ℕ) → IsLine l → IsLegal l p → j + 1 < visit_count l
    → (j + 1) / length l.stages ≡ j / length l.stages
    → p.tank (visit_at l j).carrier (visit_at l j).stage ≡ p.tank (visit_at l (j + 1)).carrier (visit_at l (j + 1)).stage
    → ⊥
next_differs l p j line legal lt row same =
    let n = length l.stages in
    let some : 0 < n = omega (arith, line.limits.stages.0) in
    let here = in_row j l.degree n some (omega (arith, lt)) in
    let there = in_row (j + 1) l.degree n some lt in
    let rows : (j + 1) / n * n ≡ j / n * n = ap (λ (x : ℕ). x * n) row in
    let step : (j + 1) % n ≡ j % n + 1 = omega (arith, rows, div-add-mod' j n, div-add-mod' (j + 1) n) in
    let c = j / n in
    let k = j % n in
    let at : p.tank ((j + 1) / n) ((j + 1) % n) ≡ p.tank c (k + 1) =
    ap (λ (x : ℕ). p.tank x ((j + 1) % n)) row ∙ ap (λ (x : ℕ). p.tank c x) step in
    let fits : k + 1 < n = omega (arith, there.1, step) in
    line.stages.moves_away k (p.tank c k) (p.tank c (k + 1)) fits (legal.routed c k (here.0, here.1)) (legal.routed c (k + 1) (here.0, fits)) (same ∙ at)

-- a row up to j: no more than there are visits, and one more a carrier, and one more where the last one is in it
pub record FewVisits (l : LineData) (p : Timetable) (i j : ℕ) : Type 0 where
  pub most : length (rows_below (visit_row l p i) (j + 1)) ≤ (j + 1 - (i + 1)) + j / length l.stages + 1
  pub free : length (visit_row l p i j) ≡ 0
      → length (rows_below (visit_row l p i) (j + 1)) ≤ (j + 1 - (i + 1)) + j / length l.stages

few_visits : (l : LineData) (p : Timetable) (i j : ℕ) → IsLine l → IsLegal l p → j < visit_count l → FewVisits l p i j
few_visits l p i zero line legal lt =
    let none : length (visit_row l p i 0) ≡ 0 = ap (λ (b : Bool). length
    (cond b (visit_pair l p (visit_at l i) (visit_at l 0)) [])) (le-ltb i 0 (omega arith)) in
    let e : 0 + 1 ≡ suc 0 = omega arith in
    let long : length (rows_below (visit_row l p i) (0 + 1)) ≡ length (visit_row l p i 0) = ap (λ (m : ℕ). length (rows_below (visit_row l p i) m)) e in
    record { most = omega (arith, long, none); free = λ f. omega (arith, long, none) }
few_visits l p i (suc j) line legal lt =
    let n = length l.stages in
    let R = visit_row l p i in
    let some : 0 < n = omega (arith, line.limits.stages.0) in
    let before = few_visits l p i j line legal (omega (arith, lt)) in
    let e : suc j + 1 ≡ suc (suc j) = omega arith in
    let e' : j + 1 ≡ suc j = omega arith in
    let long : length (rows_below R (suc j + 1)) ≡ length (rows_below R (j + 1)) + length (R (suc j)) =
    ap (λ (m : ℕ). length (rows_below R m)) e ∙ length-append (rows_below R (suc j)) (R (suc j))
    ∙ ap (λ (m : ℕ). length (rows_below R m) + length (R (suc j))) (sym e') in
    let split = div-add-mod' j n in
    let split' = div-add-mod' (suc j) n in
    let rem = mod_below j n some in
    let rem' = mod_below (suc j) n some in
    let on : j / n ≤ suc j / n = mono j n some in
    ⊎_elim
    (λ none.
    record {
      most = ⊎_elim
          (λ le. omega (arith, long, none, before.most, on, le))
          (λ gt. let all = nothing i (j + 1) (omega (arith, gt)) in omega (arith, long, none, all))
          (cases_lt i (suc j));
      free = λ f. ⊎_elim
          (λ le. omega (arith, long, none, before.most, on, le))
          (λ gt. let all = nothing i (j + 1) (omega (arith, gt)) in omega (arith, long, none, all))
          (cases_lt i (suc j));
    })
    (λ (two, less, same).
    record {
      most = ⊎_elim
          (λ none'. let f = before.free none' in omega (arith, long, two, f, on, less))
          (λ (two', less', same').
          ⊎_elim
          (λ row.
          let at : (j + 1) / n ≡ j / n = ap (λ (x : ℕ). x / n) e' ∙ row in
          let tanks : p.tank (visit_at l j).carrier (visit_at l j).stage ≡ p.tank (visit_at l (j + 1)).carrier (visit_at l (j + 1)).stage =
          sym same' ∙ same ∙ ap (λ (x : ℕ). p.tank (visit_at l x).carrier (visit_at l x).stage) (sym e') in
          absurd (next_differs l p j line legal (omega (arith, lt)) at tanks))
          (λ other. omega (arith, long, two, before.most, on, less, other))
          (cases_eq (suc j / n) (j / n)))
          (row_visits l p i j);
      free = λ f. omega (arith, f, two);
    })
    (row_visits l p i (suc j))
  where
    mono : (x n : ℕ) → 0 < n → x / n ≤ suc x / n
    mono x n some =
        ⊎_elim (λ lt.
        let le = mul-le (suc x / n + 1) n (x / n) n (omega (arith, lt)) (omega arith) in
        let more : (suc x / n + 1) * n ≡ suc x / n * n + n = omega arith in
        absurd (omega (arith, le, more, div-add-mod' x n, div-add-mod' (suc x) n, mod_below (suc x) n some)))
        (λ le. le)
        (cases_lt (suc x / n) (x / n))

    nothing : (i m : ℕ) → m ≤ i + 1 → length (rows_below (visit_row l p i) m) ≡ 0
    nothing i zero le = refl
    nothing i (suc m) le =
        let none : length (visit_row l p i m) ≡ 0 = ap (λ (b : Bool). length
        (cond b (visit_pair l p (visit_at l i) (visit_at l m)) [])) (le-ltb i m (omega (arith, le))) in
        omega (arith, length-append (rows_below (visit_row l p i) m) (visit_row l p i m), none, nothing i m (omega (arith, le)))

long_visits : (l : LineData) (p : Timetable) (i : ℕ) → IsLine l → IsLegal l p
    → length (rows_below (visit_row l p i) (visit_count l)) ≤ 1 * (visit_count l - (i + 1)) + 4
long_visits l p i line legal =
    let n = length l.stages in
    let count = visit_count l in
    let some : 1 ≤ count = mul-le 1 1 l.degree n line.limits.degree.0 (omega (arith, line.limits.stages.0)) in
    let j : ℕ = count - 1 in
    let few = few_visits l p i j line legal (omega (arith, some)) in
    let e : j + 1 ≡ count = omega (arith, some) in
    let most : length (rows_below (visit_row l p i) count) ≤ (count - (i + 1)) + j / n + 1 =
    subst (λ (m : ℕ). length (rows_below (visit_row l p i) m) ≤ (m - (i + 1)) + j / n + 1) e few.most in
    let row = (in_row j l.degree n (omega (arith, line.limits.stages.0)) (omega (arith, some))).0 in
    omega (arith, most, row, line.limits.degree.1)

-- ---- all

pub few_arcs : (l : LineData) (path : List Decision) (p : Timetable) → IsLine l → IsLegal l p
    → length (margin_arcs l p path) ≤ 30000
few_arcs l path p line legal =
    let m = move_count l in
    let v = visit_count l in
    let deg = line.limits.degree.1 in
    let stages = line.limits.stages.1 in
    let few_moves : m ≤ 124 = mul-le l.degree (last_stage l) 4 31 deg (omega (arith, stages)) in
    let few_visits' : v ≤ 128 = mul-le l.degree (length l.stages) 4 32 deg stages in
    let a = triangle (λ i. rows_below (move_row l p i) m) m 0 2 m (λ i lt. omega (arith, long_moves l p i m)) (omega arith) in
    let b = triangle (λ i. rows_below (visit_row l p i) v) v 4 1 v (λ i lt. long_visits l p i line legal) (omega arith) in
    let mm = mul-le m m 124 124 few_moves few_moves in
    let vv = mul-le v v 128 128 few_visits' few_visits' in
    let u : length (undecided_arcs l path p.period) ≤ 700 =
    omega (
      arith,
      length-map (undecided_list l) (λ (t : Constraint). at_period p.period (share_of t) (arc_of l path t)),
      length_undecided l,
      undecided_small l line,
    ) in
    omega (
      arith,
      length-append (undecided_arcs l path p.period) (visit_arcs l p ++ move_arcs l p),
      length-append (visit_arcs l p) (move_arcs l p),
      u,
      a,
      b,
      mm,
      vv,
      few_visits',
    )
