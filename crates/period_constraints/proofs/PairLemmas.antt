-- Pairs of visits and of moves by their numbers, and which of them is asked first.
use Rattle.std.proofs.Common.{⊎_elim, inl, inr, ◌≡◌, ℕ, suc, ◌+◌, ◌*◌, ◌/◌, ◌%◌, ◌<◌, refl, sym, ◌∙◌, ap, subst, arith, ℤ, Some, None}
use Rattle.std.specs.Prelude.{Option, IsSome}
use Rattle.std.proofs.lemmas.Bool.{cases_order}
use Rattle.std.proofs.lemmas.Nat.{mul-le, div-add-mod', mod_below}
use Rattle.path_constraints.specs.Questions.{IsBefore}
use Rattle.period_constraints.specs.Pairs.{Pair, IsFirstShift, IsFirstPair}

-- ---- the first shift of what says the same

pub shift_same : (P Q : ℤ → Type 0) (o : Option ℤ) → ((q : ℤ) → P q → Q q) → ((q : ℤ) → Q q → P q) → IsFirstShift P o
    → IsFirstShift Q o
shift_same P Q None to from none = λ q h. none q (from q h)
shift_same P Q (Some n) to from first = (to n first.0, λ q lt h. first.1 q lt (from q h))

-- ---- numbers and names

-- the order of the numbers is that of the names
pub numbers_before : (i j m : ℕ) → 0 < m → i < j → IsBefore (i / m) (i % m) (j / m) (j % m)
numbers_before i j m some lt =
    let at_i = div-add-mod' i m in
    let at_j = div-add-mod' j m in
    let below_j = mod_below j m some in
    ⊎_elim (λ e. inr (e, omega (arith, lt, at_i, at_j, ap (λ (x : ℕ). x * m) e)))
    (λ rest.
    ⊎_elim (λ less. inl less)
    (λ more. absurd (omega (arith, lt, at_i, at_j, below_j, mul-le (suc (j / m)) m (i / m) m more (omega arith))))
    rest)
    (cases_order (i / m) (j / m))

-- ---- the first pair, row by row

-- nothing with P stands at a second below j in row i
abbrev pub NoneInRow : (ℕ → ℕ → ℤ → Type 0) → ℕ → ℕ → Type 0
NoneInRow P i j = (k : ℕ) (q : ℤ) → k < j → P i k q → ⊥

-- nothing with P stands in a row below i
abbrev pub NoneInRows : (ℕ → ℕ → ℤ → Type 0) → ℕ → Type 0
NoneInRows P i = (k j : ℕ) (q : ℤ) → k < i → P k j q → ⊥

-- the pairs of row i
abbrev pub InRow : (ℕ → ℕ → ℤ → Type 0) → ℕ → ℕ → ℕ → ℤ → Type 0
InRow P n i j q = (i ≡ n) × P i j q

pub row_found : (P : ℕ → ℕ → ℤ → Type 0) (i j : ℕ) (q q' : ℤ) → q' ≡ q → NoneInRow P i j → IsFirstShift (P i j) (Some q)
    → IsFirstPair (InRow P i) (Some (record { first = i; second = j; shift = q' }))
row_found P i j q q' is none first =
    let R : ℤ → Type 0 = λ z. IsFirstPair (InRow P i) (Some (record { first = i; second = j; shift = z })) in
    subst R (sym is) (
      (refl, first.0),
      λ k m r earlier h.
          let here : P i m r = let S : ℕ → Type 0 = λ n. P n m r in subst S h.0 h.1 in
          ⊎_elim (λ lt. omega (arith, lt, h.0))
          (λ same.
          ⊎_elim (λ lt. none m r lt here)
          (λ last. first.1 r last.1 (let S : ℕ → Type 0 = λ n. P i n r in subst S last.0 here))
          same.1)
          earlier,
    )

pub row_more : (P : ℕ → ℕ → ℤ → Type 0) (i j : ℕ) → NoneInRow P i j → ((q : ℤ) → P i j q → ⊥) → NoneInRow P i (j + 1)
row_more P i j none here k q lt h =
    ⊎_elim (λ e. here q (let S : ℕ → Type 0 = λ n. P i n q in subst S e h)) (λ rest. ⊎_elim (λ less. none k q less h) (λ more. omega (arith, more, lt)) rest)
    (cases_order k j)

pub row_none : (P : ℕ → ℕ → ℤ → Type 0) (i n : ℕ) → ((k j : ℕ) (q : ℤ) → P k j q → j < n) → NoneInRow P i n
    → (k j : ℕ) (q : ℤ) → InRow P i k j q → ⊥
row_none P i n within none k j q h =
    let here : P i j q = let S : ℕ → Type 0 = λ m. P m j q in subst S h.0 h.1 in
    none j q (within i j q here) here

pub rows_found : (P : ℕ → ℕ → ℤ → Type 0) (i : ℕ) (o : Option Pair) → NoneInRows P i → IsFirstPair (InRow P i) o
    → IsSome o → IsFirstPair P o
rows_found P i None none first some = cc
rows_found P i (Some x) none first some = (
  first.0.1,
  λ k j q earlier h.
      ⊎_elim (λ lt. none k j q (omega (arith, lt, first.0.0)) h)
      (λ same. first.1 k j q earlier (same.0 ∙ first.0.0, h))
      earlier,
)

pub rows_more : (P : ℕ → ℕ → ℤ → Type 0) (i : ℕ) (o : Option Pair) → NoneInRows P i → IsFirstPair (InRow P i) o
    → (IsSome o → ⊥) → NoneInRows P (i + 1)
rows_more P i None none first empty k j q lt h =
    ⊎_elim (λ e. first k j q (e, h)) (λ rest. ⊎_elim (λ less. none k j q less h) (λ more. omega (arith, more, lt)) rest) (cases_order k i)
rows_more P i (Some x) none first empty k j q lt h = empty refl

pub rows_none : (P : ℕ → ℕ → ℤ → Type 0) (n : ℕ) → ((k j : ℕ) (q : ℤ) → P k j q → k < n) → NoneInRows P n
    → (k j : ℕ) (q : ℤ) → P k j q → ⊥
rows_none P n within none k j q h = none k j q (within k j q h) h
