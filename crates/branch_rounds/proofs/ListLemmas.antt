-- How often numbers stand in lists, and what one expansion more adds.
use Rattle.std.proofs.Common.{⊎_elim, ◌≡◌, ◌≢◌, ℕ, zero, suc, ◌+◌, ◌*◌, ◌<◌, ◌≤◌, ◌==◌, List, [], ◌∷◌, ◌++◌, length, get_or, refl, sym, ◌∙◌, ap, arith, append_assoc}
use Rattle.std.specs.Prelude.{Option, nat_lt}
use Rattle.std.proofs.lemmas.Bool.{cases_eq, eq-eqb, ne_eqb, cond-true, cond-false, lt-ltb, le-ltb}
use Rattle.std.proofs.lemmas.List.{append-nil, length-append}
use Rattle.choice_tree.specs.declared.node.Node.{Node}
use Rattle.choice_tree.specs.Nodes.{node_at, numbers_from}
use Rattle.choice_tree.proofs.NodeLemmas.{length-numbers_from, numbers_from_more}
use Rattle.node_expand.specs.declared.solved.Solved as plans
use Rattle.node_expand.specs.declared.expanded.Expanded.{Expanded}
use Rattle.node_expand.specs.declared.expanded.Expanded.TheVariants.{Stuck, Closed, Solved, Split}
use Rattle.branch_rounds.specs.Grown.{result_at, taken, child_count, replaced, split_count, splits_of, better, best_of}
use Rattle.branch_rounds.specs.Kept.{times, left_count, left_at, AreNarrow}

-- ---- how often

pub times-append : (j : ℕ) (xs ys : List ℕ) → times j (xs ++ ys) ≡ times j xs + times j ys
times-append j [] ys = omega arith
times-append j (x ∷ xs) ys = omega (arith, times-append j xs ys)

pub once : (i j : ℕ) (is : List ℕ) → i ≡ j → times j (i ∷ is) ≡ 1 + times j is
once i j is e = omega (arith, cond-true {A = ℕ} (i == j) 1 0 (eq-eqb i j e))

pub never : (i j : ℕ) (is : List ℕ) → i ≢ j → times j (i ∷ is) ≡ times j is
never i j is ne = omega (arith, cond-false {A = ℕ} (i == j) 1 0 (ne_eqb i j ne))

pub times_before : (j first count : ℕ) → j < first → times j (numbers_from first count) ≡ 0
times_before j first zero lt = refl
times_before j first (suc count) lt =
    never first j (numbers_from (first + 1) count) (λ e. omega (arith, e, lt)) ∙ times_before j (first + 1) count (omega (arith, lt))

pub times_within : (j first count : ℕ) → first ≤ j → j < first + count → times j (numbers_from first count) ≡ 1
times_within j first zero le lt = absurd (omega (arith, le, lt))
times_within j first (suc count) le lt =
    ⊎_elim
    (λ e. omega (arith, once first j (numbers_from (first + 1) count) e, times_before j (first + 1) count (omega (arith, e))))
    (λ ne. never first j (numbers_from (first + 1) count) ne ∙ times_within j (first + 1) count (omega (arith, le, ne)) (omega (arith, lt)))
    (cases_eq first j)

pub times_behind : (j first count : ℕ) → first + count ≤ j → times j (numbers_from first count) ≡ 0
times_behind j first zero le = refl
times_behind j first (suc count) le =
    never first j (numbers_from (first + 1) count) (λ e. omega (arith, e, le)) ∙ times_behind j (first + 1) count (omega (arith, le))

pub left_there : (tree : List Node) (j : ℕ) → j < length tree → left_at tree j ≡ left_count (node_at tree j)
left_there tree j lt = cond-true (nat_lt j (length tree)) (left_count (node_at tree j)) 0 (lt-ltb j (length tree) lt)

pub left_past : (tree : List Node) (j : ℕ) → length tree ≤ j → left_at tree j ≡ 0
left_past tree j le = cond-false (nat_lt j (length tree)) (left_count (node_at tree j)) 0 (le-ltb j (length tree) le)

-- ---- one expansion more

pub taken_more : (tree : List Node) (is : List ℕ) (xs : List Expanded) (x : Expanded) → length xs < length is
    → taken tree is (xs ++ x ∷ []) ≡ result_at (taken tree is xs) (get_or is (length xs) 0) x
taken_more tree [] xs x lt = absurd (omega (arith, lt))
taken_more tree (i ∷ is) [] x lt = refl
taken_more tree (i ∷ is) (y ∷ ys) x lt = taken_more (result_at tree i y) is ys x (omega (arith, lt))

abbrev pub total : List Expanded → ℕ
total [] = 0
total (x ∷ xs) = child_count x + total xs

pub replaced_more : (first : ℕ) (xs : List Expanded) (x : Expanded)
    → replaced first (xs ++ x ∷ []) ≡ replaced first xs ++ numbers_from (first + total xs) (child_count x)
replaced_more first [] x =
    let e : first ≡ first + 0 = omega arith in
    append-nil (numbers_from first (child_count x)) ∙ ap (λ (n : ℕ). numbers_from n (child_count x)) e
replaced_more first (y ∷ ys) x =
    let e : first + child_count y + total ys ≡ first + (child_count y + total ys) = omega arith in
    let front = numbers_from first (child_count y) in
    let rest = replaced (first + child_count y) ys in
    ap (λ (ns : List ℕ). front ++ ns) (replaced_more (first + child_count y) ys x)
    ∙ sym (append_assoc front rest (numbers_from (first + child_count y + total ys) (child_count x)))
    ∙ ap (λ (n : ℕ). front ++ rest ++ numbers_from n (child_count x)) e

pub best_more : (best : Option plans.Solved) (xs : List Expanded) (x : Expanded)
    → best_of best (xs ++ x ∷ []) ≡ better (best_of best xs) x
best_more best [] x = refl
best_more best (y ∷ ys) x = best_more (better best y) ys x

pub splits_more : (xs : List Expanded) (x : Expanded) → splits_of (xs ++ x ∷ []) ≡ splits_of xs + split_count x
splits_more [] x = omega arith
splits_more (y ∷ ys) x = omega (arith, splits_more ys x)

-- ---- sizes

pub one_split : (x : Expanded) → split_count x ≤ 1
one_split (Stuck m) = omega arith
one_split (Closed low high) = omega arith
one_split (Solved solved low) = omega arith
one_split (Split question children period low) = omega arith

pub six_children : (x : Expanded) → child_count x ≤ 6 → child_count x ≤ 6 * split_count x
six_children (Stuck m) h = omega arith
six_children (Closed low high) h = omega arith
six_children (Solved solved low) h = omega arith
six_children (Split question children period low) h = omega (arith, h)

pub few_splits : (xs : List Expanded) → splits_of xs ≤ length xs
few_splits [] = omega arith
few_splits (x ∷ xs) = omega (arith, one_split x, few_splits xs)

pub narrow_first : (x : Expanded) (xs : List Expanded) → AreNarrow (x ∷ xs) → child_count x ≤ 6
narrow_first x xs h = h 0 x (omega arith) refl

pub narrow_rest : (x : Expanded) (xs : List Expanded) → AreNarrow (x ∷ xs) → AreNarrow xs
narrow_rest x xs h = λ k y lt is. h (suc k) y (omega (arith, lt)) is

pub length-replaced : (first : ℕ) (xs : List Expanded) → AreNarrow xs → length (replaced first xs) ≤ 6 * splits_of xs
length-replaced first [] h = omega arith
length-replaced first (x ∷ xs) h =
    omega (
      arith,
      length-append (numbers_from first (child_count x)) (replaced (first + child_count x) xs),
      length-numbers_from first (child_count x),
      six_children x (narrow_first x xs h),
      length-replaced (first + child_count x) xs (narrow_rest x xs h),
    )

-- ---- numbers in a row

pub pushed_number : (old paths pushed : List ℕ) (first count : ℕ) → paths ≡ old ++ numbers_from first count
    → pushed ≡ paths ++ (first + count) ∷ []
    → pushed ≡ old ++ numbers_from first (count + 1)
pushed_number old paths pushed first count was is =
    is ∙ ap (λ (ns : List ℕ). ns ++ (first + count) ∷ []) was ∙ append_assoc old (numbers_from first count) ((first + count) ∷ [])
    ∙ ap (λ (ns : List ℕ). old ++ ns) (sym (numbers_from_more first count))

pub numbers_all : (old paths : List ℕ) (first first' count count' : ℕ) → paths ≡ old ++ numbers_from first count
    → first ≡ first' → count ≡ count'
    → paths ≡ old ++ numbers_from first' count'
numbers_all old paths first first' count count' is e f =
    is ∙ ap (λ (n : ℕ). old ++ numbers_from n count) e ∙ ap (λ (n : ℕ). old ++ numbers_from first' n) f
