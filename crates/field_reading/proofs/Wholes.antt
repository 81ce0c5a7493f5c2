-- Bytes as a whole: where nothing may stand behind what is read.
use Rattle.std.proofs.Common.{◌≡◌, ℕ, zero, suc, ◌-◌, ◌<◌, ◌≤◌, List, [], ◌∷◌, ◌++◌, length, take, Result, Ok, Err, refl, sym, ap, subst, ◌∙◌}
use Rattle.std.proofs.Common.{append_assoc, arith, length-append}
use Rattle.std.proofs.lemmas.List.{append-nil, append_cancel_left, take_at, nil_from_length}
use Rattle.field_reading.specs.Fronts.{GoesOn, BreaksAt}
use Rattle.field_reading.specs.Reads.{SameHead, IsRead, IsBroken, Reads, Any}
use Rattle.field_reading.proofs.Field.{SameHead-refl}
use Rattle.field_reading.proofs.Words.{same_pair, cut_again}

-- a front that is longer begins with the shorter one and the byte behind it
longer : (n m : ℕ) (front back : List ℕ) → length front ≡ n → n < m → m ≤ length (front ++ back)
    → (y : List ℕ) × (take m (front ++ back) ≡ front ++ y) × ((z : List ℕ) → SameHead (y ++ z) back)
longer n m [] [] e lt le = absurd (omega (arith, e, lt, le))
longer n zero [] (b ∷ back) e lt le = absurd (omega (arith, lt))
longer n (suc m) [] (b ∷ back) e lt le = (b ∷ take m back, refl, λ z. refl)
longer n zero (a ∷ front) back e lt le = absurd (omega (arith, lt))
longer zero (suc m) (a ∷ front) back e lt le = absurd (omega (arith, e))
longer (suc n) (suc m) (a ∷ front) back e lt le =
    let r = longer n m front back (omega (arith, e)) (omega (arith, lt)) (omega (arith, le)) in
    (r.0, ap (λ (l : List ℕ). a ∷ l) r.1, r.2)

-- a break of the bytes as a whole
pub breaks_at : {A : Type 0} (Fits : A → Type 0) (text : A → List ℕ) (bytes front back : List ℕ) (left : ℕ)
    → bytes ≡ front ++ back → left ≡ length back → GoesOn Fits text front
    → ((a : A) (y : List ℕ) → Fits a → text a ≡ front ++ y → SameHead y back → ⊥)
    → BreaksAt Fits text bytes (length bytes - left)
breaks_at Fits text bytes front back left is left_is goes none =
    let n : length bytes - left ≡ length front = omega (arith, ap length is, length-append front back, left_is) in
    let cut : take (length bytes - left) bytes ≡ front =
    ap (λ (k : ℕ). take k bytes) n ∙ ap (take (length front)) is ∙ take_at front back (length front) refl in
    record {
      no_text = λ a fits e. none a back fits (sym e ∙ is) (SameHead-refl back);
      within = omega arith;
      goes_on = subst (GoesOn Fits text) (sym cut) goes;
      longest = λ m lt le on.
          let far : m ≤ length (front ++ back) = omega (arith, le, ap length is) in
          let r = longer (length front) m front back refl (omega (arith, lt, n)) far in
          let e : text on.0 ≡ front ++ (r.0 ++ on.1) =
          on.3 ∙ ap (λ (x : List ℕ). x ++ on.1) (ap (take m) is ∙ r.1) ∙ append_assoc front r.0 on.1 in
          none on.0 (r.0 ++ on.1) on.2 e (r.2 on.1);
    }

-- a list is cut where so many are left in one way alone
pub same_cut : (f b g c : List ℕ) → f ++ b ≡ g ++ c → length b ≡ length c → (f ≡ g) × (b ≡ c)
same_cut f b g c e n =
    let m = cut_again f b g c e (omega (arith, n)) in
    let none : m.0 ≡ [] = nil_from_length m.0 (omega (arith, ap length m.2, length-append m.0 b, n)) in
    (m.1 ∙ ap (λ (x : List ℕ). g ++ x) none ∙ append-nil g, sym (m.2 ∙ ap (λ (x : List ℕ). x ++ b) none))

-- where something is left, what agrees with it isn't empty
pub not_empty : (rest y : List ℕ) → 0 < length rest → length y ≡ 0 → SameHead y rest → ⊥
not_empty [] y lt z same = omega (arith, lt)
not_empty (x ∷ rest) [] lt z same = same
not_empty (x ∷ rest) (b ∷ y) lt z same = omega (arith, z)

-- reading broke off
pub broken_breaks : {A : Type 0} (Fits : A → Type 0) (text : A → List ℕ) (bytes : List ℕ) (left : ℕ)
    → IsBroken Fits text Any bytes left
    → BreaksAt Fits text bytes (length bytes - left)
broken_breaks Fits text bytes left h =
    breaks_at Fits text bytes h.front h.back left h.is h.left_is (h.some, h.more, h.fits, h.begun)
    (λ a y f e same. h.none a [] y f tt (append-nil (text a) ∙ e) same)

-- something stands behind what was read
pub more_breaks : {A : Type 0} (Fits : A → Type 0) (text : A → List ℕ) (bytes : List ℕ) (a : A) (rest : List ℕ)
    → IsRead Fits text Any bytes a rest → 0 < length rest → BreaksAt Fits text bytes (length bytes - length rest)
more_breaks Fits text bytes a rest h some =
    breaks_at Fits text bytes (text a) rest (length rest) h.is refl (a, [], h.fits, sym (append-nil (text a)))
    (λ b y f e same.
    let one : b ≡ a = h.only b [] y f tt (append-nil (text b) ∙ e) same in
    let grown : text a ≡ text a ++ y = ap text (sym one) ∙ e in
    not_empty rest y some (omega (arith, ap length grown, length-append (text a) y)) same)

-- the text of a value is read as that value
pub whole_read : {A : Type 0} (Fits : A → Type 0) (text : A → List ℕ) (bytes : List ℕ) (a : A) (r : Result (A × List ℕ) ℕ)
    → Fits a → bytes ≡ text a → Reads Fits text Any bytes r → r ≡ Ok (a, [])
whole_read {A = A} Fits text bytes a (Ok x) fits is g =
    let e : text a ++ [] ≡ text x.0 ++ x.1 = append-nil (text a) ∙ sym is ∙ g.is in
    let p : a ≡ x.0 = g.only a [] x.1 fits tt e (SameHead-refl x.1) in
    let q : [] ≡ x.1 = append_cancel_left (text x.0) [] x.1 (ap (λ (b : A). text b ++ []) (sym p) ∙ e) in
    ap (λ (y : A × List ℕ). Ok y) (same_pair x a [] (sym p) (sym q))
whole_read Fits text bytes a (Err left) fits is g =
    absurd (g.none a [] g.back fits tt (append-nil (text a) ∙ sym is ∙ g.is) (SameHead-refl g.back))
