-- Elements of lists: what maps, filters, and the least and the greatest number keep of them.
use Rattle.std.proofs.Common.{⊎_elim, inl, inr, ◌⊎◌, ◌≡◌, ℕ, zero, suc, ◌+◌, ◌<◌, ◌≤◌, min, max, List, [], ◌∷◌, length, map, Bool, true, false, refl, sym, ◌∙◌, ap, subst, arith, Some}
use Rattle.std.specs.Prelude.{Contains, flat_map, filter, fold, slice_get, cond}
use Rattle.std.proofs.lemmas.Bool.{cases_lt}
use Rattle.std.proofs.lemmas.List.Elements.{Contains-append_left, Contains-append_right}
use Rattle.std.proofs.lemmas.Option.{slice_get-get_or, get_or_from_slice_get, slice_get_within}

pub contains_first : {X : Type 0} (x : X) (xs : List X) → Contains (x ∷ xs) x
contains_first x xs = (zero, omega arith, refl)

pub contains_rest : {X : Type 0} (x y : X) (xs : List X) → Contains xs y → Contains (x ∷ xs) y
contains_rest x y xs (k, lt, e) = (suc k, omega (arith, lt), e)

pub contains_cases : {X : Type 0} (x y : X) (xs : List X) → Contains (x ∷ xs) y → (x ≡ y) ⊎ Contains xs y
contains_cases x y xs (zero, lt, e) = inl e
contains_cases x y xs (suc k, lt, e) = inr (k, omega (arith, lt), e)

-- the only element
pub contains_only : {X : Type 0} (x y : X) → Contains (x ∷ []) y → x ≡ y
contains_only x y c = ⊎_elim (λ e. e) (λ n. absurd (omega (arith, n.1))) (contains_cases x y [] c)

pub contains_map : {X Y : Type 0} (f : X → Y) (xs : List X) (x : X) → Contains xs x → Contains (map f xs) (f x)
contains_map f [] x c = absurd (omega (arith, c.1))
contains_map {X} {Y} f (y ∷ ys) x c =
    let P : X → Type 0 = λ z. Contains (f y ∷ map f ys) (f z) in
    ⊎_elim (λ e. subst P e (contains_first (f y) (map f ys))) (λ r. contains_rest (f y) (f x) (map f ys) (contains_map f ys x r))
    (contains_cases y x ys c)

pub contains_flat_map : {X Y : Type 0} (f : X → List Y) (xs : List X) (x : X) (y : Y) → Contains xs x → Contains (f x) y
    → Contains (flat_map f xs) y
contains_flat_map f [] x y c d = absurd (omega (arith, c.1))
contains_flat_map {X} {Y} f (z ∷ xs) x y c d =
    let P : X → Type 0 = λ v. Contains (f v) y in
    ⊎_elim (λ e. Contains-append_left (f z) (flat_map f xs) y (subst P (sym e) d))
    (λ r. Contains-append_right (f z) (flat_map f xs) y (contains_flat_map f xs x y r d))
    (contains_cases z x xs c)

keeps_first : (b : Bool) (x : ℕ) (xs : List ℕ) → b ≡ true → Contains (cond b (x ∷ xs) xs) x
keeps_first true x xs e = contains_first x xs
keeps_first false x xs e = cc

keeps_rest : (b : Bool) (x y : ℕ) (xs : List ℕ) → Contains xs y → Contains (cond b (x ∷ xs) xs) y
keeps_rest true x y xs c = contains_rest x y xs c
keeps_rest false x y xs c = c

-- what passes a test
pub contains_filter : (test : ℕ → Bool) (xs : List ℕ) (x : ℕ) → Contains xs x → test x ≡ true
    → Contains (filter test xs) x
contains_filter test [] x c e = absurd (omega (arith, c.1))
contains_filter test (y ∷ xs) x c e =
    let P : ℕ → Type 0 = λ z. Contains (filter test (y ∷ xs)) z in
    ⊎_elim (λ same. subst P same (keeps_first (test y) y (filter test xs) (ap test same ∙ e)))
    (λ r. keeps_rest (test y) y x (filter test xs) (contains_filter test xs x r e))
    (contains_cases y x xs c)

-- an element and its place
pub place_of : (xs : List ℕ) (x : ℕ) → Contains xs x → (k : ℕ) × (k < length xs) × (slice_get xs k ≡ Some x)
place_of xs x (k, lt, e) = (k, lt, slice_get-get_or xs k x lt ∙ ap (λ (y : ℕ). Some y) e)

pub contains_at : (xs : List ℕ) (x k : ℕ) → slice_get xs k ≡ Some x → Contains xs x
contains_at xs x k e = (k, slice_get_within xs k x e, get_or_from_slice_get xs k x x e)

-- the least and the greatest number
pub least_first : (a : ℕ) (xs : List ℕ) → fold min a xs ≤ a
least_first a [] = omega arith
least_first a (x ∷ xs) = omega (arith, least_first (min a x) xs)

pub least_rest : (a : ℕ) (xs : List ℕ) (y : ℕ) → Contains xs y → fold min a xs ≤ y
least_rest a [] y c = absurd (omega (arith, c.1))
least_rest a (x ∷ xs) y c =
    ⊎_elim (λ e. omega (arith, e, least_first (min a x) xs)) (λ r. least_rest (min a x) xs y r) (contains_cases x y xs c)

pub greatest_first : (a : ℕ) (xs : List ℕ) → a ≤ fold max a xs
greatest_first a [] = omega arith
greatest_first a (x ∷ xs) = omega (arith, greatest_first (max a x) xs)

pub greatest_rest : (a : ℕ) (xs : List ℕ) (y : ℕ) → Contains xs y → y ≤ fold max a xs
greatest_rest a [] y c = absurd (omega (arith, c.1))
greatest_rest a (x ∷ xs) y c =
    ⊎_elim (λ e. omega (arith, e, greatest_first (max a x) xs)) (λ r. greatest_rest (max a x) xs y r) (contains_cases x y xs c)

-- what holds below k and at k holds below k + 1
pub up_to_more : (P : ℕ → Type 0) (k : ℕ) → ((j : ℕ) → j < k → P j) → P k → (j : ℕ) → j < k + 1 → P j
up_to_more P k below here j lt = ⊎_elim (λ less. below j less) (λ more. subst P (omega (arith, lt, more)) here) (cases_lt j k)
