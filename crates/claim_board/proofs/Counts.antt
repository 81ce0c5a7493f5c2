-- Sums and counts over the views, before and after a change of one of them.
use Rattle.std.proofs.Common.{◌≡◌, ℕ, zero, suc, ◌+◌, ◌<◌, ◌≤◌, ◌==◌, List, [], ◌∷◌, ◌++◌, length, map, get_or, min, sum_by, set, if◌then◌else◌, refl, sym, ap, ◌∙◌, arith, zero-add}
use Rattle.std.proofs.lemmas.List.Sums.{sum_by-set, sum_by-append, count_by-le-length, sum_by-cons}
use mathlib.Core.Option.{some, some-injective, some-ne-none}
use lib.ListN.{get_elem?}
use Rattle.claim_board.specs.declared.rule.View.{View}
use Rattle.claim_board.specs.Tidy.{times, once_below}

pub get_or-there : {A : Type 0} (l : List A) (i : ℕ) (a : A) → get_elem? l i ≡ some a
    → (i < length l) × (get_or l i a ≡ a)
get_or-there [] i a e = absurd (some-ne-none a (sym e))
get_or-there (x ∷ xs) zero a e = (omega arith, some-injective x a e)
get_or-there (x ∷ xs) (suc i) a e = let there = get_or-there xs i a e in (omega (arith, there.0), there.1)

-- a sum over the views after one of them changed
pub sum_by-moved : (f : View → ℕ) (vs : List View) (i : ℕ) (v w : View) → get_elem? vs i ≡ some v
    → sum_by f (set vs i w) + f v ≡ sum_by f vs + f w
sum_by-moved f vs i v w e =
    let there = get_or-there vs i v e in
    ap (λ u. sum_by f (set vs i w) + f u) (sym there.1) ∙ sum_by-set f vs i w v there.0

-- a sum over one view more
pub sum_by-last : (f : View → ℕ) (vs : List View) (w : View) → sum_by f (vs ++ w ∷ []) ≡ sum_by f vs + f w
sum_by-last f vs w = sum_by-append f vs (w ∷ []) ∙ ap (λ n. sum_by f vs + n) (zero-add (f w))

-- how often x stands in the lists of the views
abbrev pub drawn : ℕ → View → ℕ
drawn x v = times x v.list

abbrev pub lists : List View → List (List ℕ)
lists views = map (λ (v : View). v.list) views

pub lists-sum : (x : ℕ) (views : List View) → sum_by (λ xs. times x xs) (lists views) ≡ sum_by (drawn x) views
lists-sum x [] = refl
lists-sum x (v ∷ vs) =
    sum_by-cons (λ xs. times x xs) v.list (lists vs) ∙ ap (λ n. times x v.list + n) (lists-sum x vs) ∙ sym (sum_by-cons (drawn x) v vs)

pub times-append : (x : ℕ) (xs ys : List ℕ) → times x (xs ++ ys) ≡ times x xs + times x ys
times-append x xs ys = sum_by-append _ xs ys

pub times-snoc : (x y : ℕ) (xs : List ℕ) → times x (xs ++ y ∷ []) ≡ times x xs + (if y == x then 1 else 0)
times-snoc x y xs = sum_by-append _ xs (y ∷ []) ∙ grind arith

-- one number more
pub once_below-next : (x m n : ℕ) → m < n
    → once_below (min (m + 1) n) x ≡ once_below (min m n) x + (if m == x then 1 else 0)
once_below-next x m n h = grind arith

pub once_below-full : (x m n : ℕ) → n ≤ m → once_below (min (m + 1) n) x ≡ once_below (min m n) x
once_below-full x m n h = grind arith

-- the next number was not drawn
pub once_below-self : (m n : ℕ) → once_below (min m n) m ≡ 0
once_below-self m n = grind arith

pub once_below-min : (x m n : ℕ) → n < m → once_below (min m n) x ≡ once_below n x
once_below-min x m n h = grind arith

-- a sum of smaller terms is smaller
pub sum_by-below : (f h : View → ℕ) (vs : List View) → ((k : ℕ) (v : View) → get_elem? vs k ≡ some v → f v ≤ h v)
    → sum_by f vs ≤ sum_by h vs
sum_by-below f h [] each = omega arith
sum_by-below f h (v ∷ vs) each =
    omega (arith, sum_by-cons f v vs, sum_by-cons h v vs, each 0 v refl, sum_by-below f h vs (λ k u e. each (suc k) u e))

pub times-few : (x : ℕ) (xs : List ℕ) → times x xs ≤ length xs
times-few x xs = count_by-le-length (λ y. y == x) xs
