-- Items one after the other: a counted list, and trees in preorder.
use Rattle.std.proofs.Common.{◌≡◌, ℕ, zero, suc, ◌+◌, ◌<◌, ◌≤◌, List, [], ◌∷◌, ◌++◌, length, get_or, Result, Ok, refl, sym, ap, subst, ◌∙◌, append_assoc, arith}
use Rattle.std.proofs.Common.{length-append}
use Rattle.std.specs.List.{flat_map, AllByRecursion}
use Rattle.std.proofs.lemmas.List.{nil_from_length}
use Rattle.std.proofs.lemmas.List.Concat.{flat_map-cons}
use Rattle.field_reading.specs.Reading.{◌>>=◌, items_at, forest_at}
use Rattle.field_reading.specs.Reads.{SameHead, Reads}
use Rattle.field_reading.proofs.Field.{IsPart, then_reads, made_reads, done_reads, retext}

abbrev first_of_list : {A : Type 0} → A → List A → A
first_of_list nil [] = nil
first_of_list nil (x ∷ xs) = x

abbrev after_first : {A : Type 0} → (List A → List ℕ) → List A → List ℕ
after_first text [] = []
after_first text (x ∷ xs) = text xs

-- lists of a first item and others: what fits behind it, and how the texts join
pub record IsCons {A : Type 0} (F : A → Type 0) (ta : A → List ℕ) (SA : List ℕ → Type 0) (W : List A → Type 0) (tw : List A → List ℕ) (S : List ℕ → Type 0)
    (B : A → List A → Type 0) (tb : List A → List ℕ) : Type 0 where
  pub behind : (x : A) (xs : List A) → W (x ∷ xs) → F x × B x xs
  pub whole : (x : A) (xs : List A) → F x → B x xs → W (x ∷ xs)
  pub none : W [] → ⊥
  pub text : (x : A) (xs : List A) → tw (x ∷ xs) ≡ ta x ++ tb xs
  pub stops : (x : A) (xs : List A) (t : List ℕ) → B x xs → S t → SA (tb xs ++ t)
  pub completes : (x : A) → F x → (xs : List A) × B x xs

cons_part : {A : Type 0} (F : A → Type 0) (ta : A → List ℕ) (SA : List ℕ → Type 0) (W : List A → Type 0) (tw : List A → List ℕ) (S : List ℕ → Type 0)
    (B : A → List A → Type 0) (tb : List A → List ℕ) (nil : A)
    → IsCons F ta SA W tw S B tb → IsPart F ta SA W tw S (first_of_list nil) (after_first tb)
cons_part {A = A} F ta SA W tw S B tb nil is = record {
  parts = parts;
  text = starts;
  stops = stops;
  completes = λ a f. let more = is.completes a f in (a ∷ more.0, is.whole a more.0 f more.1, refl);
}
  where
    parts : (xs : List A) → W xs → F (first_of_list nil xs)
    parts [] f = absurd (is.none f)
    parts (x ∷ xs) f = (is.behind x xs f).0

    starts : (xs : List A) → W xs → tw xs ≡ ta (first_of_list nil xs) ++ after_first tb xs
    starts [] f = absurd (is.none f)
    starts (x ∷ xs) f = is.text x xs

    stops : (xs : List A) (t : List ℕ) → W xs → S t → SA (after_first tb xs ++ t)
    stops [] t f s = absurd (is.none f)
    stops (x ∷ xs) t f s = is.stops x xs t (is.behind x xs f).1 s

-- one item in front of others
pub cons_items : {A : Type 0} (F : A → Type 0) (ta : A → List ℕ) (SA : List ℕ → Type 0) (W : List A → Type 0) (tw : List A → List ℕ) (S : List ℕ → Type 0)
    (B : A → List A → Type 0) (tb : List A → List ℕ) (nil : A)
    → IsCons F ta SA W tw S B tb
    → (bytes : List ℕ) (first : Result (A × List ℕ) ℕ) (others : A × List ℕ → Result (List A × List ℕ) ℕ)
    → Reads F ta SA bytes first
    → ((a : A) (rest : List ℕ) → F a → bytes ≡ ta a ++ rest → Reads (B a) tb S rest (others (a, rest)))
    → Reads W tw S bytes (first >>= λ x. others x >>= λ y. Ok (x.0 ∷ y.0, y.1))
cons_items {A = A} F ta SA W tw S B tb nil is bytes first others read h =
    then_reads F ta SA W tw S (first_of_list nil) (after_first tb) (cons_part F ta SA W tw S B tb nil is) bytes first
    (λ x. others x >>= λ y. Ok (x.0 ∷ y.0, y.1)) read
    (λ a rest f e.
    made_reads (B a) tb (λ xs. W xs × (first_of_list nil xs ≡ a)) (after_first tb) S (λ xs. a ∷ xs) rest (others (a, rest))
    (λ xs g. ((is.whole a xs f g, refl), refl))
    (from a rest)
    (h a rest f e))
  where
    from : (a : A) (rest : List ℕ) (xs : List A) (t : List ℕ) → W xs × (first_of_list nil xs ≡ a) → S t
        → SameHead (after_first tb xs ++ t) rest
        → (ys : List A) × B a ys × (a ∷ ys ≡ xs)
    from a rest [] t g s head = absurd (is.none g.0)
    from a rest (x ∷ xs) t g s head = (xs, subst (λ (z : A). B z xs) g.1 (is.behind x xs g.0).1, ap (λ (z : A). z ∷ xs) (sym g.1))

-- ---- a counted list, its items numbered from i on

unfoldable pub texts_from : {A : Type 0} → (ℕ → A → List ℕ) → ℕ → List A → List ℕ
texts_from text i [] = []
texts_from text i (x ∷ xs) = text i x ++ texts_from text (i + 1) xs

abbrev pub AllFrom : {A : Type 0} → (ℕ → A → Type 0) → ℕ → List A → Type 0
AllFrom F i [] = Unit {0}
AllFrom F i (x ∷ xs) = F i x × AllFrom F (i + 1) xs

-- what is asked of the reader of an item; nil stands for any item
pub record IsItem {A : Type 0} (F : ℕ → A → Type 0) (text : ℕ → A → List ℕ) (S : List ℕ → Type 0) (item : ℕ → List ℕ → Result (A × List ℕ) ℕ)
    (nil : ℕ → A) : Type 0 where
  pub reads : (i : ℕ) (bytes : List ℕ) → Reads (F i) (text i) S bytes (item i bytes)
  pub stops : (i : ℕ) (a : A) (t : List ℕ) → F i a → S t → S (text i a ++ t)
  pub nil_fits : (i : ℕ) → F i (nil i)

abbrev pub nils : {A : Type 0} → (ℕ → A) → ℕ → ℕ → List A
nils nil i zero = []
nils nil i (suc n) = nil i ∷ nils nil (i + 1) n

pub length_nils : {A : Type 0} (nil : ℕ → A) (i n : ℕ) → length (nils nil i n) ≡ n
length_nils nil i zero = refl
length_nils nil i (suc n) = ap suc (length_nils nil (i + 1) n)

pub all_nils : {A : Type 0} (F : ℕ → A → Type 0) (nil : ℕ → A) (i n : ℕ) → ((j : ℕ) → F j (nil j))
    → AllFrom F i (nils nil i n)
all_nils F nil i zero f = tt
all_nils F nil i (suc n) f = (f i, all_nils F nil (i + 1) n f)

-- after the items stands what stands after an item
pub stops_after : {A : Type 0} (F : ℕ → A → Type 0) (text : ℕ → A → List ℕ) (S : List ℕ → Type 0)
    → ((i : ℕ) (a : A) (t : List ℕ) → F i a → S t → S (text i a ++ t))
    → (i : ℕ) (xs : List A) (t : List ℕ) → AllFrom F i xs → S t → S (texts_from text i xs ++ t)
unfolding texts_from
stops_after F text S is i [] t f s = s
stops_after F text S is i (x ∷ xs) t f s =
    subst S (sym (append_assoc (text i x) (texts_from text (i + 1) xs) t))
    (is i x (texts_from text (i + 1) xs ++ t) f.0 (stops_after F text S is (i + 1) xs t f.1 s))

pub items_read : {A : Type 0} (F : ℕ → A → Type 0) (text : ℕ → A → List ℕ) (S : List ℕ → Type 0) (item : ℕ → List ℕ → Result (A × List ℕ) ℕ) (nil : ℕ → A)
    → IsItem F text S item nil → (i n : ℕ) (bytes : List ℕ)
    → Reads (λ xs. (length xs ≡ n) × AllFrom F i xs) (λ xs. texts_from text i xs) S bytes (items_at item i n bytes)
unfolding items_at texts_from
items_read F text S item nil is i zero bytes =
    retext (λ xs. (length xs ≡ 0) × AllFrom F i xs) (λ xs. []) (λ xs. texts_from text i xs) S bytes (Ok ([], bytes))
    (λ xs f. ap (texts_from text i) (sym (nil_from_length xs f.0)))
    (done_reads (λ xs. (length xs ≡ 0) × AllFrom F i xs) S bytes [] (refl, tt) (λ xs f. nil_from_length xs f.0))
items_read F text S item nil is i (suc n) bytes =
    cons_items (F i) (text i) S (λ xs. (length xs ≡ suc n) × AllFrom F i xs) (λ xs. texts_from text i xs) S (λ x xs. (length xs ≡ n) × AllFrom F (i + 1) xs)
    (λ xs. texts_from text (i + 1) xs) (nil i)
    (record {
      behind = λ x xs f. (f.1.0, (omega (arith, f.0), f.1.1));
      whole = λ x xs f g. (ap suc g.0, (f, g.1));
      none = λ f. omega (arith, f.0);
      text = λ x xs. refl;
      stops = λ x xs t g s. stops_after F text S is.stops (i + 1) xs t g.1 s;
      completes = λ x f. (nils nil (i + 1) n, (length_nils nil (i + 1) n, all_nils F nil (i + 1) n is.nil_fits));
    })
    bytes (item i bytes) (λ x. items_at item (i + 1) n x.1) (is.reads i bytes) (λ a rest f e. items_read F text S item nil is (i + 1) n rest)

-- items that don't look at their numbers
pub texts_are : {A : Type 0} (text : A → List ℕ) (i : ℕ) (xs : List A) → texts_from (λ j. text) i xs ≡ flat_map text xs
unfolding texts_from
texts_are text i [] = refl
texts_are text i (x ∷ xs) = ap (λ (l : List ℕ). text x ++ l) (texts_are text (i + 1) xs) ∙ sym (flat_map-cons text x xs)

-- what holds of each item, by its place
pub all_at : {A : Type 0} (F : ℕ → A → Type 0) (nil : A) (i : ℕ) (xs : List A) → AllFrom F i xs → (j : ℕ)
    → j < length xs → F (i + j) (get_or xs j nil)
all_at F nil i [] f j lt = absurd (omega arith)
all_at {A = A} F nil i (x ∷ xs) f zero lt = let e : i ≡ i + 0 = omega arith in subst (λ (n : ℕ). F n x) e f.0
all_at {A = A} F nil i (x ∷ xs) f (suc j) lt =
    let e : i + 1 + j ≡ i + suc j = omega arith in
    subst (λ (n : ℕ). F n (get_or xs j nil)) e (all_at F nil (i + 1) xs f.1 j (omega arith))

pub all_from : {A : Type 0} (F : ℕ → A → Type 0) (nil : A) (i : ℕ) (xs : List A)
    → ((j : ℕ) → j < length xs → F (i + j) (get_or xs j nil)) → AllFrom F i xs
all_from F nil i [] h = tt
all_from F nil i (x ∷ xs) h =
    let e : i + 0 ≡ i = omega arith in (
      subst (λ (n : ℕ). F n x) e (h 0 (omega arith)),
      all_from F nil (i + 1) xs
          (λ j lt. let m : i + suc j ≡ i + 1 + j = omega arith in subst (λ (n : ℕ). F n (get_or xs j nil)) m (h (suc j) (omega arith))),
    )

-- ---- trees in preorder

-- the items in preorder are just as many trees as are open
abbrev pub IsForest : {A : Type 0} → (A → ℕ) → ℕ → List A → Type 0
IsForest arity zero [] = Unit {0}
IsForest arity zero (x ∷ xs) = ⊥
IsForest arity (suc trees) [] = ⊥
IsForest arity (suc trees) (x ∷ xs) = IsForest arity (trees + arity x) xs

-- as many trees as are open, of items that fit, and no more of them than may be
abbrev pub IsFewForest : {A : Type 0} → (A → ℕ) → (A → Type 0) → ℕ → ℕ → ℕ → List A → Type 0
IsFewForest arity F most used trees xs = IsForest arity trees xs × AllByRecursion F xs × (used + length xs ≤ most)

abbrev repeated : {A : Type 0} → ℕ → A → List A
repeated zero a = []
repeated (suc n) a = a ∷ repeated n a

length_repeated : {A : Type 0} (n : ℕ) (a : A) → length (repeated n a) ≡ n
length_repeated zero a = refl
length_repeated (suc n) a = ap suc (length_repeated n a)

all_repeated : {A : Type 0} (F : A → Type 0) (n : ℕ) (a : A) → F a → AllByRecursion F (repeated n a)
all_repeated F zero a f = tt
all_repeated F (suc n) a f = (f, all_repeated F n a f)

-- as many leaves as are open
leaves : {A : Type 0} (arity : A → ℕ) (nil : A) (n : ℕ) → arity nil ≡ 0 → IsForest arity n (repeated n nil)
leaves arity nil zero e = tt
leaves arity nil (suc n) e =
    let same : n + arity nil ≡ n = omega (arith, e) in
    subst (λ (k : ℕ). IsForest arity k (repeated n nil)) (sym same) (leaves arity nil n e)

no_trees : {A : Type 0} (arity : A → ℕ) (xs : List A) → IsForest arity 0 xs → xs ≡ []
no_trees arity [] f = refl
no_trees arity (x ∷ xs) f = absurd f

-- what is asked of the reader of a tree's line: its text is longer than its children are many
pub record IsRowItem {A : Type 0} (arity : A → ℕ) (widest : ℕ) (F : A → Type 0) (text : A → List ℕ) (S : List ℕ → Type 0)
    (item : List ℕ → Result (A × List ℕ) ℕ) (nil : A) : Type 0 where
  pub reads : (bytes : List ℕ) → Reads F text S bytes (item bytes)
  pub stops : (xs : List A) (t : List ℕ) → AllByRecursion F xs → S t → S (flat_map text xs ++ t)
  pub nil_fits : F nil
  pub nil_leaf : arity nil ≡ 0
  pub few : (a : A) → F a → arity a ≤ widest
  pub long : (a : A) → F a → arity a + 1 ≤ length (text a)

pub forest_read : {A : Type 0} (arity : A → ℕ) (widest : ℕ) (F : A → Type 0) (text : A → List ℕ) (S : List ℕ → Type 0) (item : List ℕ → Result (A × List ℕ) ℕ)
    (nil : A) → IsRowItem arity widest F text S item nil
    → (most used fuel n : ℕ) (bytes : List ℕ) → length bytes < fuel → used + n + length bytes + widest ≤ most
    → Reads (IsFewForest arity F most used n) (λ xs. flat_map text xs) S bytes (forest_at arity item fuel n bytes)
unfolding forest_at
forest_read arity widest F text S item nil is most used zero n bytes lt room = absurd (omega (arith, lt))
forest_read arity widest F text S item nil is most used (suc fuel) zero bytes lt room =
    retext (IsFewForest arity F most used 0) (λ xs. []) (λ xs. flat_map text xs) S bytes (Ok ([], bytes))
    (λ xs f. ap (flat_map text) (sym (no_trees arity xs f.0)))
    (done_reads (IsFewForest arity F most used 0) S bytes [] (tt, tt, omega (arith, room)) (λ xs f. no_trees arity xs f.0))
forest_read arity widest F text S item nil is most used (suc fuel) (suc n) bytes lt room =
    cons_items F text S (IsFewForest arity F most used (suc n)) (λ xs. flat_map text xs) S (λ x xs. IsFewForest arity F most (used + 1) (n + arity x) xs)
    (λ xs. flat_map text xs) nil
    (record {
      behind = λ x xs f. (f.1.0, (f.0, f.1.1, omega (arith, f.2)));
      whole = λ x xs f g. (g.0, (f, g.1), omega (arith, g.2));
      none = λ f. f.0;
      text = λ x xs. flat_map-cons text x xs;
      stops = λ x xs t g s. is.stops xs t g.1 s;
      completes =
          λ x f. (
            repeated (n + arity x) nil,
            (
              leaves arity nil (n + arity x) is.nil_leaf,
              all_repeated F (n + arity x) nil is.nil_fits,
              omega (arith, length_repeated (n + arity x) nil, is.few x f, room),
            ),
          );
    })
    bytes (item bytes) (λ x. forest_at arity item fuel (n + arity x.0) x.1) (is.reads bytes)
    (λ a rest f e.
    let shorter : length bytes ≡ length (text a) + length rest = ap length e ∙ length-append (text a) rest in
    forest_read arity widest F text S item nil is most (used + 1) fuel (n + arity a) rest (omega (arith, shorter, is.long a f, lt))
    (omega (arith, shorter, is.long a f, room)))
