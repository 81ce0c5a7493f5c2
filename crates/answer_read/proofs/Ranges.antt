-- Lines for the numbers of a range, against lines for the items of a list.
use Rattle.std.proofs.Common.{◌≡◌, ℕ, zero, suc, ◌+◌, ◌*◌, ◌<◌, List, [], ◌∷◌, ◌++◌, length, get_or, refl, sym, ap, subst, ◌∙◌, arith}
use Rattle.std.specs.List.{flat_map, range_with_len}
use Rattle.std.proofs.lemmas.List.Concat.{flat_map-cons, flat_map-append}
use Rattle.answer_text.specs.Tables.{each_below}
use Rattle.field_reading.proofs.Items.{texts_from}

-- lines that are told by the number alone are those of a list's items
pub lines_are : {A : Type 0} (f : ℕ → List ℕ) (text : ℕ → A → List ℕ) (nil : A) (i n : ℕ) (xs : List A) → length xs ≡ n
    → ((j : ℕ) → j < n → f (i + j) ≡ text (i + j) (get_or xs j nil))
    → flat_map f (range_with_len i n) ≡ texts_from text i xs
unfolding texts_from
lines_are f text nil i zero [] e h = refl
lines_are f text nil i zero (x ∷ xs) e h = absurd (omega (arith, e))
lines_are f text nil i (suc n) [] e h = absurd (omega (arith, e))
lines_are {A = A} f text nil i (suc n) (x ∷ xs) e h =
    let z : i + 0 ≡ i = omega arith in
    let here : f i ≡ text i x = subst (λ (k : ℕ). f k ≡ text k x) z (h 0 (omega arith)) in
    let others : flat_map f (range_with_len (i + 1) n) ≡ texts_from text (i + 1) xs =
    lines_are f text nil (i + 1) n xs (omega (arith, e))
    (λ j lt. let m : i + suc j ≡ i + 1 + j = omega arith in subst (λ (k : ℕ). f k ≡ text k (get_or xs j nil)) m (h (suc j) (omega arith))) in
    flat_map-cons f i (range_with_len (i + 1) n) ∙ ap (λ (l : List ℕ). l ++ flat_map f (range_with_len (i + 1) n)) here
    ∙ ap (λ (l : List ℕ). text i x ++ l) others

-- the same lines at other numbers
same_lines : (f g : ℕ → List ℕ) (a b n : ℕ) → ((j : ℕ) → j < n → f (a + j) ≡ g (b + j))
    → flat_map f (range_with_len a n) ≡ flat_map g (range_with_len b n)
same_lines f g a b zero h = refl
same_lines f g a b (suc n) h =
    let za : a + 0 ≡ a = omega arith in
    let zb : b + 0 ≡ b = omega arith in
    let here : f a ≡ g b = ap f (sym za) ∙ h 0 (omega arith) ∙ ap g zb in
    let others : flat_map f (range_with_len (a + 1) n) ≡ flat_map g (range_with_len (b + 1) n) =
    same_lines f g (a + 1) (b + 1) n
    (λ j lt. let ma : a + 1 + j ≡ a + suc j = omega arith in let mb : b + suc j ≡ b + 1 + j = omega arith in ap f ma ∙ h (suc j) (omega arith) ∙ ap g mb) in
    flat_map-cons f a (range_with_len (a + 1) n) ∙ ap (λ (l : List ℕ). l ++ flat_map f (range_with_len (a + 1) n)) here ∙ ap (λ (l : List ℕ). g b ++ l) others
    ∙ sym (flat_map-cons g b (range_with_len (b + 1) n))

range_split : (i a b : ℕ) → range_with_len i (a + b) ≡ range_with_len i a ++ range_with_len (i + a) b
range_split i zero b = let e : i ≡ i + 0 = omega arith in let m : zero + b ≡ b = omega arith in ap (range_with_len i) m ∙ ap (λ (k : ℕ). range_with_len k b) e
range_split i (suc a) b =
    let m : suc a + b ≡ suc (a + b) = omega arith in
    let e : i + 1 + a ≡ i + suc a = omega arith in
    ap (range_with_len i) m ∙ ap (λ (xs : List ℕ). i ∷ xs) (range_split (i + 1) a b) ∙ ap (λ (k : ℕ). i ∷ (range_with_len (i + 1) a ++ range_with_len k b)) e

-- lines by row and place are lines by number
blocks : (f : ℕ → ℕ → List ℕ) (g : ℕ → List ℕ) (n i a : ℕ) → ((c k : ℕ) → c < i + a → k < n → f c k ≡ g (c * n + k))
    → flat_map (λ c. each_below n (f c)) (range_with_len i a) ≡ flat_map g (range_with_len (i * n) (a * n))
blocks f g n i zero h = let z : zero * n ≡ 0 = omega arith in ap (λ (k : ℕ). flat_map g (range_with_len (i * n) k)) (sym z)
blocks f g n i (suc a) h =
    let m : suc a * n ≡ n + a * n = omega arith in
    let s : i * n + n ≡ (i + 1) * n = omega arith in
    let here : each_below n (f i) ≡ flat_map g (range_with_len (i * n) n) =
    same_lines (f i) g 0 (i * n) n (λ j lt. let z : 0 + j ≡ j = omega arith in ap (f i) z ∙ h i j (omega arith) lt) in
    let others : flat_map (λ c. each_below n (f c)) (range_with_len (i + 1) a) ≡ flat_map g (range_with_len ((i + 1) * n) (a * n)) =
    blocks f g n (i + 1) a (λ c k lt lt'. h c k (omega arith) lt') in
    flat_map-cons (λ c. each_below n (f c)) i (range_with_len (i + 1) a)
    ∙ ap (λ (l : List ℕ). l ++ flat_map (λ c. each_below n (f c)) (range_with_len (i + 1) a)) here
    ∙ ap (λ (l : List ℕ). flat_map g (range_with_len (i * n) n) ++ l) (others ∙ ap (λ (k : ℕ). flat_map g (range_with_len k (a * n))) (sym s))
    ∙ sym (flat_map-append g (range_with_len (i * n) n) (range_with_len (i * n + n) (a * n)))
    ∙ ap (flat_map g) (sym (range_split (i * n) n (a * n)))
    ∙ ap (λ (k : ℕ). flat_map g (range_with_len (i * n) k)) (sym m)

pub nested_lines : {A : Type 0} (f : ℕ → ℕ → List ℕ) (text : ℕ → A → List ℕ) (nil : A) (a n : ℕ) (xs : List A)
    → length xs ≡ a * n
    → ((c k : ℕ) → c < a → k < n → f c k ≡ text (c * n + k) (get_or xs (c * n + k) nil))
    → each_below a (λ c. each_below n (f c)) ≡ texts_from text 0 xs
nested_lines f text nil a n xs e h =
    let z : 0 * n ≡ 0 = omega arith in
    blocks f (λ v. text v (get_or xs v nil)) n 0 a (λ c k lt lt'. h c k (omega arith) lt')
    ∙ ap (λ (k : ℕ). flat_map (λ v. text v (get_or xs v nil)) (range_with_len k (a * n))) z
    ∙ lines_are (λ v. text v (get_or xs v nil)) text nil 0 (a * n) xs e
    (λ j lt. let m : 0 + j ≡ j = omega arith in ap (λ (k : ℕ). text k (get_or xs k nil)) m ∙ ap (λ (k : ℕ). text k (get_or xs j nil)) (sym m))
