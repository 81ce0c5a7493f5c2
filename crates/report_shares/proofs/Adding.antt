-- Ticks of each kind, counted.
use Rattle.std.proofs.Common.{
  ◌≡◌,
  refl,
  ℕ,
  ◌+◌,
  ◌&&◌,
  Bool,
  true,
  false,
  not,
  cond,
  List,
  [],
  ◌∷◌,
  ◌++◌,
  length,
  map,
  sym,
  ap,
  ◌∙◌,
  arith,
}
use Rattle.std.specs.List.{count_by, list_any, range_with_len}
use Rattle.std.proofs.lemmas.List.{map-id}
use Rattle.std.proofs.lemmas.List.Folds.{list_any-append}
use Rattle.std.proofs.lemmas.List.FromFn.{length-range_with_len, map-range_with_len_more}
use Rattle.std.proofs.lemmas.List.Sums.{sum_by-cons, sum_by_push}
use Rattle.report_shares.specs.Ticks.{carries, changes}
use Rattle.report_shares.specs.Laws.{SharesAddUp}

pub one : (a b : Bool) → cond a 1 0 + cond (not a && b) 1 0 + cond (not a && not b) 1 0 ≡ 1
one true true = refl
one true false = refl
one false true = refl
one false false = refl

first : (test : ℕ → Bool) (x : ℕ) (xs : List ℕ) → count_by test (x ∷ xs) ≡ cond (test x) 1 0 + count_by test xs
first test x xs = sum_by-cons (λ y. cond (test y) 1 0) x xs

-- each of a list is of one of three kinds
adds : (a b : ℕ → Bool) (xs : List ℕ) →
    count_by a xs + count_by (λ x. not (a x) && b x) xs + count_by (λ x. not (a x) && not (b x)) xs ≡ length xs
adds a b [] = refl
adds a b (x ∷ xs) =
    let carried = first a x xs in
    let driven = first (λ x. not (a x) && b x) x xs in
    let stood = first (λ x. not (a x) && not (b x)) x xs in
    omega (arith, one (a x) (b x), adds a b xs, carried, driven, stood)

pub shares_add : SharesAddUp
shares_add l p h = adds (carries l p h) (changes p h) (range_with_len 0 p.period) ∙ length-range_with_len 0 p.period

range_more : (n : ℕ) → range_with_len 0 (n + 1) ≡ range_with_len 0 n ++ n ∷ []
range_more n = sym (map-id (range_with_len 0 (n + 1))) ∙ map-range_with_len_more (λ (x : ℕ). x) 0 n n (omega arith) ∙ ap
    (λ xs. xs ++ n ∷ []) (map-id (range_with_len 0 n))

-- a number more is counted or not
pub count_more : (test : ℕ → Bool) (n : ℕ)
    → count_by test (range_with_len 0 (n + 1)) ≡ count_by test (range_with_len 0 n) + cond (test n) 1 0
count_more test n =
    ap (count_by test) (range_more n) ∙ sum_by_push (λ y. cond (test y) 1 0) (range_with_len 0 n) n

-- no number is of the kind where the next one isn't either
pub none_more : (test : ℕ → Bool) (n : ℕ) → list_any test (range_with_len 0 n) ≡ false → test n ≡ false
    → list_any test (range_with_len 0 (n + 1)) ≡ false
none_more test n before next =
    ap (list_any test) (range_more n) ∙ list_any-append test (range_with_len 0 n) (n ∷ []) ∙ grind (arith, before, next)
