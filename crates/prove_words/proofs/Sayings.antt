-- What one, two and three words can say.
use Rattle.std.proofs.Common.{◌≡◌, ℕ, suc, ◌+◌, ◌≤◌, ◌∙◌, inl, inr, refl, sym, ap, subst, arith, List, [], ◌∷◌, ◌++◌, length, get_or, codes, ◌⊎◌}
use Rattle.std.proofs.lemmas.List.{length-append, append_cancel_left}
use Rattle.hoist_words.specs.Request.{IsFileName}
use Rattle.prove_words.specs.Request.{Say, IsOption}

-- the option as one word
abbrev joined : List ℕ → List ℕ
joined value = codes "--nodes=" ++ value

-- ---- how many words they are

option_count : (option : List (List ℕ)) (value : List ℕ) → IsOption option value
    → (1 ≤ length option) × (length option ≤ 2)
option_count option value (inl e) = let n : length option ≡ 1 = ap length e in (omega (arith, n), omega (arith, n))
option_count option value (inr e) = let n : length option ≡ 2 = ap length e in (omega (arith, n), omega (arith, n))

say_count : (words : List (List ℕ)) (file : List ℕ) (values : List (List ℕ)) → Say words file values
    → (1 ≤ length words) × (length words ≤ 3)
say_count words file [] e = let n : length words ≡ 1 = ap length e in (omega (arith, n), omega (arith, n))
say_count words file (v ∷ []) (option, o, inl e) =
    let n : length words ≡ suc (length option) = ap length e in
    let few = option_count option v o in
    (omega (arith, n), omega (arith, n, few.1))
say_count words file (v ∷ []) (option, o, inr e) =
    let n : length words ≡ length option + 1 = ap length e ∙ length-append option (file ∷ []) in
    let few = option_count option v o in
    (omega (arith, n), omega (arith, n, few.1))
say_count words file (v ∷ w ∷ vs) s = absurd s

-- ---- which they are

at : (i : ℕ) (xs ys : List (List ℕ)) → xs ≡ ys → get_or xs i [] ≡ get_or ys i []
at i xs ys e = ap (λ (zs : List (List ℕ)). get_or zs i []) e

pub one_say : (a file : List ℕ) (values : List (List ℕ)) → Say (a ∷ []) file values → (file ≡ a) × (values ≡ [])
one_say a file [] e = (sym (at 0 _ _ e), refl)
one_say a file (v ∷ []) (option, o, inl e) =
    let n : 1 ≡ suc (length option) = ap length e in
    absurd (omega (arith, n, (option_count option v o).0))
one_say a file (v ∷ []) (option, o, inr e) =
    let n : 1 ≡ length option + 1 = ap length e ∙ length-append option (file ∷ []) in
    absurd (omega (arith, n, (option_count option v o).0))
one_say a file (v ∷ w ∷ vs) s = absurd s

-- the file and then the option, or the other way round
abbrev TwoSay : List ℕ → List ℕ → List ℕ → List (List ℕ) → Type 0
TwoSay a b file values =
    (v : List ℕ) × (values ≡ v ∷ []) × (((file ≡ a) × (b ≡ joined v)) ⊎ ((a ≡ joined v) × (file ≡ b)))

two_say : (a b file : List ℕ) (values : List (List ℕ)) → Say (a ∷ b ∷ []) file values → TwoSay a b file values
two_say a b file [] e = let n : 2 ≡ 1 = ap length e in absurd (omega (arith, n))
two_say a b file (v ∷ []) (option, inl o, inl e) =
    let f : a ∷ b ∷ [] ≡ file ∷ joined v ∷ [] = e ∙ ap (λ (os : List (List ℕ)). file ∷ os) o in
    (v, refl, inl (sym (at 0 _ _ f), at 1 _ _ f))
two_say a b file (v ∷ []) (option, inl o, inr e) =
    let f : a ∷ b ∷ [] ≡ joined v ∷ file ∷ [] = e ∙ ap (λ (os : List (List ℕ)). os ++ (file ∷ [])) o in
    (v, refl, inr (at 0 _ _ f, sym (at 1 _ _ f)))
two_say a b file (v ∷ []) (option, inr o, inl e) =
    let n : 2 ≡ 3 = ap length (e ∙ ap (λ (os : List (List ℕ)). file ∷ os) o) in absurd (omega (arith, n))
two_say a b file (v ∷ []) (option, inr o, inr e) =
    let n : 2 ≡ 3 = ap length (e ∙ ap (λ (os : List (List ℕ)). os ++ (file ∷ [])) o) in absurd (omega (arith, n))
two_say a b file (v ∷ w ∷ vs) s = absurd s

abbrev ThreeSay : List ℕ → List ℕ → List ℕ → List ℕ → List (List ℕ) → Type 0
ThreeSay a b c file values =
    (v : List ℕ) × (values ≡ v ∷ [])
    × (((file ≡ a) × (b ≡ codes "--nodes") × (c ≡ v)) ⊎ ((a ≡ codes "--nodes") × (b ≡ v) × (file ≡ c)))

three_say : (a b c file : List ℕ) (values : List (List ℕ)) → Say (a ∷ b ∷ c ∷ []) file values
    → ThreeSay a b c file values
three_say a b c file [] e = let n : 3 ≡ 1 = ap length e in absurd (omega (arith, n))
three_say a b c file (v ∷ []) (option, inl o, inl e) =
    let n : 3 ≡ 2 = ap length (e ∙ ap (λ (os : List (List ℕ)). file ∷ os) o) in absurd (omega (arith, n))
three_say a b c file (v ∷ []) (option, inl o, inr e) =
    let n : 3 ≡ 2 = ap length (e ∙ ap (λ (os : List (List ℕ)). os ++ (file ∷ [])) o) in absurd (omega (arith, n))
three_say a b c file (v ∷ []) (option, inr o, inl e) =
    let f : a ∷ b ∷ c ∷ [] ≡ file ∷ codes "--nodes" ∷ v ∷ [] = e ∙ ap (λ (os : List (List ℕ)). file ∷ os) o in
    (v, refl, inl (sym (at 0 _ _ f), at 1 _ _ f, at 2 _ _ f))
three_say a b c file (v ∷ []) (option, inr o, inr e) =
    let f : a ∷ b ∷ c ∷ [] ≡ codes "--nodes" ∷ v ∷ file ∷ [] = e ∙ ap (λ (os : List (List ℕ)). os ++ (file ∷ [])) o in
    (v, refl, inr (at 0 _ _ f, at 1 _ _ f, sym (at 2 _ _ f)))
three_say a b c file (v ∷ w ∷ vs) s = absurd s

-- ---- which it is, where one of the words is the option

-- no file has the name of an option
dashed : (w rest : List ℕ) → w ≡ 45 ∷ rest → IsFileName w → ⊥
dashed w rest e file = subst IsFileName e file refl

same_value : (v u : List ℕ) → joined v ≡ joined u → v ≡ u
same_value v u e = append_cancel_left (codes "--nodes=") v u e

-- the words say this file with this value, and no other file with a name
abbrev pub SayOnly : List (List ℕ) → List ℕ → List ℕ → Type 0
SayOnly words a v =
    Say words a (v ∷ [])
    × ((file : List ℕ) (values : List (List ℕ)) → Say words file values → IsFileName file → (file ≡ a) × (values ≡ v ∷ []))

one_value : (u v : List ℕ) (values : List (List ℕ)) → values ≡ u ∷ [] → u ≡ v → values ≡ v ∷ []
one_value u v values is e = is ∙ ap (λ (w : List ℕ). w ∷ []) e

joined_first_only : (a b v file : List ℕ) (values : List (List ℕ)) → a ≡ joined v → IsFileName file
    → TwoSay a b file values
    → (file ≡ b) × (values ≡ v ∷ [])
joined_first_only a b v file values e name (u, is, inl (f, g)) = absurd (dashed a _ e (subst IsFileName f name))
joined_first_only a b v file values e name (u, is, inr (f, g)) = (g, one_value u v values is (same_value u v (sym f ∙ e)))

pub joined_first : (a b v : List ℕ) → a ≡ codes "--nodes=" ++ v → SayOnly (a ∷ b ∷ []) b v
joined_first a b v e = (
  (joined v ∷ [], inl refl, inr (ap (λ (x : List ℕ). x ∷ b ∷ []) e)),
  λ file values say name. joined_first_only a b v file values e name (two_say a b file values say),
)

joined_last_only : (a b v file : List ℕ) (values : List (List ℕ)) → ((u : List ℕ) → a ≡ joined u → ⊥) → b ≡ joined v
    → TwoSay a b file values
    → (file ≡ a) × (values ≡ v ∷ [])
joined_last_only a b v file values never e (u, is, inl (f, g)) = (f, one_value u v values is (same_value u v (sym g ∙ e)))
joined_last_only a b v file values never e (u, is, inr (f, g)) = absurd (never u f)

pub joined_last : (a b v : List ℕ) → ((u : List ℕ) → a ≡ codes "--nodes=" ++ u → ⊥) → b ≡ codes "--nodes=" ++ v
    → SayOnly (a ∷ b ∷ []) a v
joined_last a b v never e = (
  (joined v ∷ [], inl refl, inl (ap (λ (x : List ℕ). a ∷ x ∷ []) e)),
  λ file values say name. joined_last_only a b v file values never e (two_say a b file values say),
)

opening_first_only : (a b c file : List ℕ) (values : List (List ℕ)) → a ≡ codes "--nodes" → IsFileName file
    → ThreeSay a b c file values
    → (file ≡ c) × (values ≡ b ∷ [])
opening_first_only a b c file values e name (u, is, inl (f, g, h)) = absurd (dashed a _ e (subst IsFileName f name))
opening_first_only a b c file values e name (u, is, inr (f, g, h)) = (h, one_value u b values is (sym g))

pub opening_first : (a b c : List ℕ) → a ≡ codes "--nodes" → SayOnly (a ∷ b ∷ c ∷ []) c b
opening_first a b c e = (
  (codes "--nodes" ∷ b ∷ [], inr refl, inr (ap (λ (x : List ℕ). x ∷ b ∷ c ∷ []) e)),
  λ file values say name. opening_first_only a b c file values e name (three_say a b c file values say),
)

opening_middle_only : (a b c file : List ℕ) (values : List (List ℕ)) → (a ≡ codes "--nodes" → ⊥)
    → ThreeSay a b c file values
    → (file ≡ a) × (values ≡ c ∷ [])
opening_middle_only a b c file values never (u, is, inl (f, g, h)) = (f, one_value u c values is (sym h))
opening_middle_only a b c file values never (u, is, inr (f, g, h)) = absurd (never f)

pub opening_middle : (a b c : List ℕ) → (a ≡ codes "--nodes" → ⊥) → b ≡ codes "--nodes" → SayOnly (a ∷ b ∷ c ∷ []) a c
opening_middle a b c never e = (
  (codes "--nodes" ∷ c ∷ [], inr refl, inl (ap (λ (x : List ℕ). a ∷ x ∷ c ∷ []) e)),
  λ file values say name. opening_middle_only a b c file values never (three_say a b c file values say),
)
