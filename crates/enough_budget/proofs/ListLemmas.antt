-- Lists that hold what is different, and how long they are.
use Rattle.std.proofs.Common.{⊎_elim, inl, inr, ◌⊎◌, ◌≡◌, ℕ, zero, suc, ◌+◌, ◌*◌, ◌<◌, ◌≤◌, List, [], ◌∷◌, length, Bool, true, false, cond, sym, ◌∙◌, ap, subst, arith, Some}
use Rattle.std.specs.Prelude.{flat_map, slice_get}
use Rattle.std.specs.List.{list_any}
use Rattle.std.proofs.lemmas.List.{length-append}
use Rattle.std.proofs.lemmas.List.Folds.{list_any_at}
use Rattle.list_facts.proofs.Elements.{greatest_first, greatest_rest}
use Rattle.path_constraints.specs.Tanks.{greatest_of}
use Rattle.path_constraints.proofs.NameLemmas.{In, place_in, contains_in}

-- ---- what a list holds

-- a list without an element that it holds
record Without {A : Type 0} (xs : List A) (x : A) : Type 0 where
  rest : List A
  shorter : length xs ≡ length rest + 1
  others : (y : A) → In xs y → (x ≡ y) ⊎ In rest y

without : {A : Type 0} (xs : List A) (x : A) → In xs x → Without xs x
without [] x h = absurd h
without {A = A} (z ∷ zs) x h =
    ⊎_elim
    (λ e. let found : Without (z ∷ zs) x =
    record { rest = zs; shorter = omega arith; others = λ y there. ⊎_elim (λ e'. inl (sym e ∙ e')) (λ more. inr more) there } in found)
    (λ more.
    let r = without zs x more in
    let found : Without (z ∷ zs) x = record {
      rest = z ∷ r.rest;
      shorter = omega (arith, r.shorter);
      others = λ y there.
          ⊎_elim (λ e. inr (inl e)) (λ later. ⊎_elim (λ same. inl same) (λ other. inr (inr other)) (r.others y later)) there;
    } in
    found)
    h

-- so many different elements of a list are no more than it has
pub few_different : {A : Type 0} (f : ℕ → A) (n : ℕ) (xs : List A) → ((i j : ℕ) → i < j → j < n → f i ≡ f j → ⊥)
    → ((i : ℕ) → i < n → In xs (f i))
    → n ≤ length xs
few_different f zero xs differ there = omega arith
few_different f (suc n) xs differ there =
    let r = without xs (f n) (there n (omega arith)) in
    let fewer =
    few_different f n r.rest (λ i j lt lt'. differ i j lt (omega (arith, lt')))
    (λ i lt. ⊎_elim (λ same. absurd (differ i n lt (omega arith) (sym same))) (λ other. other) (r.others (f i) (there i (omega (arith, lt))))) in
    omega (arith, fewer, r.shorter)

pub any_in : {A : Type 0} (test : A → Bool) (xs : List A) (x : A) → In xs x → test x ≡ true → list_any test xs ≡ true
any_in test xs x h e = let r = place_in xs x x h in list_any_at test xs r.0 x r.1 (ap test r.2 ∙ e)

pub in_got : (xs : List ℕ) (n x : ℕ) → slice_get xs n ≡ Some x → In xs x
in_got [] n x e = cc
in_got (y ∷ ys) zero x e = let same : y ≡ x = cc in inl same
in_got (y ∷ ys) (suc n) x e = inr (in_got ys n x e)

-- ---- how long a list is, and how great its numbers

pub rows_length : {A B : Type 0} (row : A → List B) (n : ℕ) (xs : List A) → ((x : A) → length (row x) ≡ n)
    → length (flat_map row xs) ≡ length xs * n
rows_length row n [] each = omega arith
rows_length row n (x ∷ xs) each = omega (arith, length-append (row x) (flat_map row xs), each x, rows_length row n xs each)

pub in_greatest : (xs : List ℕ) (x : ℕ) → In xs x → x ≤ greatest_of xs
in_greatest [] x h = absurd h
in_greatest (y ∷ ys) x h =
    ⊎_elim (λ e. omega (arith, e, greatest_first y ys)) (λ more. greatest_rest y ys x (contains_in ys x more)) h
