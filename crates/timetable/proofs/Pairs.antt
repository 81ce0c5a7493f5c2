-- Pairs by their numbers, and the order of lists of values.
use Rattle.std.proofs.Common.{◌≡◌, ℕ, ◌+◌, ◌*◌, ◌/◌, ◌%◌, ◌<◌, ◌≤◌, ◌⊎◌, inl, inr, arith, ap, subst, sym, ◌∙◌, ⊎_elim, List, [], ◌∷◌}
use Rattle.std.specs.Prelude.{ℤ, pos, Bool, true, false, ◌==◌, ◌&&◌}
use Rattle.std.proofs.lemmas.Bool.Decides.{nat_tests}
use Rattle.std.proofs.lemmas.Bool.{cases_lt}
use Rattle.std.proofs.lemmas.Int.{ints}
use Rattle.std.proofs.lemmas.Nat.{div-mul-add, mod-mul-add, div-add-mod'}
use Rattle.std.proofs.Math.Nat.{mul-le-mul_right, div-mul-le_self}
use Rattle.timetable.specs.Numbers.{NoneUnder}
use Rattle.timetable.specs.Faults.{IsLess}

-- the pair of a number
pub none_under_more : (n i : ℕ) (P : ℕ → ℕ → Type 0) → NoneUnder n i P → (P (i / n) (i % n) → ⊥) → NoneUnder n (i + 1) P
none_under_more n i P none here a b lt under has =
    ⊎_elim
    (λ less. none a b lt less has)
    (λ ge.
    let e : a * n + b ≡ i = omega arith in
    let d : a ≡ i / n = sym (div-mul-add a n b lt) ∙ ap (λ (x : ℕ). x / n) e in
    let m : b ≡ i % n = sym (mod-mul-add a n b lt) ∙ ap (λ (x : ℕ). x % n) e in
    here (subst (λ (x : ℕ). P (i / n) x) m (subst (λ (x : ℕ). P x b) d has)))
    (cases_lt (a * n + b) i)

-- the number of a pair
pub number_below : (a n b r : ℕ) → a < r → b < n → a * n + b < r * n
number_below a n b r p q =
    let le : a + 1 ≤ r = omega arith in
    omega (arith, mul-le-mul_right n le)

pub none_at_all : (n r : ℕ) (P : ℕ → ℕ → Type 0) → NoneUnder n (r * n) P → (a b : ℕ) → a < r → b < n → P a b → ⊥
none_at_all n r P none a b p q has = none a b q (number_below a n b r p q) has

-- the row of a number
pub row_below : (n i r : ℕ) → i < r * n → i / n < r
row_below n i r lt =
    ⊎_elim
    (λ less. less)
    (λ ge. let le : r ≤ i / n = ge in absurd (omega (arith, mul-le-mul_right n le, div-mul-le_self i n)))
    (cases_lt (i / n) r)

-- the pair (a, b) comes before (c, d)
abbrev pub ComesBefore : ℕ → ℕ → ℕ → ℕ → Type 0
ComesBefore a b c d = (a < c) ⊎ ((a ≡ c) × (b < d))

pub number_before : (n a b c d : ℕ) → b < n → ComesBefore a b c d → a * n + b < c * n + d
number_before n a b c d lt before =
    ⊎_elim
    (λ less. let le : a + 1 ≤ c = omega (arith, less) in omega (arith, mul-le-mul_right n le))
    (λ same. let e : a * n ≡ c * n = ap (λ (x : ℕ). x * n) same.0 in omega (arith, e, same.1))
    before

-- what comes before the pair of a number has a smaller number
pub number_before_row : (n i a b : ℕ) → b < n → ComesBefore a b (i / n) (i % n) → a * n + b < i
number_before_row n i a b lt before = omega (arith, number_before n a b (i / n) (i % n) lt before, div-add-mod' i n)

-- where a list of values is less by its first two, or by the rest
abbrev pub ByPair : ℕ → ℕ → ℕ → ℕ → Type 0 → Type 0
ByPair a b c d Rest = ComesBefore a b c d ⊎ ((a ≡ c) × (b ≡ d) × Rest)

pub by_pair : (a b c d : ℕ) (xs ys : List ℤ) → IsLess (pos a ∷ pos b ∷ xs) (pos c ∷ pos d ∷ ys)
    → ByPair a b c d (IsLess xs ys)
by_pair a b c d xs ys less =
    ⊎_elim
    (λ lt. inl (inl (omega (arith, ints, lt))))
    (λ same. ⊎_elim
    (λ lt. inl (inr (omega (arith, ints, same.0), omega (arith, ints, lt))))
    (λ same'. inr (omega (arith, ints, same.0), omega (arith, ints, same'.0), same'.1))
    same.1)
    less

-- equal lists are not less
pub less_differs : (xs ys : List ℤ) → xs ≡ ys → IsLess xs ys → ⊥
less_differs [] ys e less = less
less_differs (x ∷ xs) [] e less = less
less_differs (x ∷ xs) (y ∷ ys) e less =
    let same : x ≡ y = cc in
    let rest : xs ≡ ys = cc in
    ⊎_elim (λ lt. omega (arith, ints, same, lt)) (λ s. less_differs xs ys rest s.1) less

-- the numbers passed so far, when that is all of them
pub none_under_less : (n i j : ℕ) (P : ℕ → ℕ → Type 0) → NoneUnder n i P → j ≤ i → NoneUnder n j P
none_under_less n i j P none le a b lt under has = none a b lt (omega (arith, under, le)) has

-- what a test of two pairs tells
pub both_equal : (a b c d : ℕ) (r : Bool) → r ≡ (a == b && c == d) → r ≡ true → (a ≡ b) × (c ≡ d)
both_equal a b c d r is test = grind (arith, nat_tests)

pub not_both_equal : (a b c d : ℕ) (r : Bool) → r ≡ (a == b && c == d) → r ≡ false → (a ≡ b) × (c ≡ d) → ⊥
not_both_equal a b c d r is test same = grind (arith, nat_tests)
