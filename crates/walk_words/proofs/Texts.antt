-- Texts, one part behind the other.
use Rattle.std.proofs.Common.{
  ◌≡◌,
  ℕ,
  List,
  [],
  ◌∷◌,
  ◌++◌,
  map,
  take,
  length,
  get_or,
  ◌+◌,
  ◌<◌,
  sym,
  ap,
  ◌∙◌,
  append_assoc,
  Bool,
  true,
  false,
  cond,
  if◌then◌else◌,
  Result,
  Ok,
  Err,
  OnOk,
  IfOk,
}
use Rattle.std.specs.Result.{is_ok}
use Rattle.std.specs.List.{flat_map}
use Rattle.std.proofs.lemmas.Bool.{cond-true, cond-false}
use Rattle.std.proofs.lemmas.List.{append-nil, map_more}
use Rattle.std.proofs.lemmas.Grind.{flat_map-append}
use Rattle.choice_tree.specs.declared.constraint.Constraint.{Constraint}
use Rattle.markup.specs.Forms.{Form, form_text, holding, holding_all}

-- texts, each of which is the one before and a part
abbrev pub Grows : List ℕ → List (List ℕ × List ℕ) → Type 0
Grows old [] = Unit {0}
Grows old (s ∷ rest) = (s.0 ≡ old ++ s.1) × Grows s.0 rest

-- the last of the texts, and all parts in their order
abbrev pub last_text : List ℕ → List (List ℕ × List ℕ) → List ℕ
last_text old [] = old
last_text old (s ∷ rest) = last_text s.0 rest

abbrev pub parts : List ℕ → List (List ℕ × List ℕ) → List ℕ
parts first [] = first
parts first (s ∷ rest) = first ++ parts s.1 rest

pub grown : (old text first : List ℕ) (rest : List (List ℕ × List ℕ)) → text ≡ old ++ first → Grows text rest
    → last_text text rest ≡ old ++ parts first rest
grown old text first [] is grows = is
grown old text first (s ∷ rest) is (next, grows) =
    grown text s.0 s.1 rest next grows ∙ ap (λ (xs : List ℕ). xs ++ parts s.1 rest) is ∙ append_assoc old first
    (parts s.1 rest)

-- what stands behind a text where it was written
pub at_ok : {T E : Type 0} (r : Result T E) (old new part : List ℕ) → new ≡ (if is_ok r then old ++ part else old)
    → OnOk r (new ≡ old ++ part)
at_ok {T = T} {E = E} (Ok x) old new part e = e
at_ok {T = T} {E = E} (Err x) old new part e = tt

pub if_ok_weaker : {T E : Type 0} (r : Result T E) (P Q : T → Type 0) → ((x : T) → P x → Q x) → IfOk r P → IfOk r Q
if_ok_weaker {T = T} {E = E} (Ok x) P Q f h = f x h
if_ok_weaker {T = T} {E = E} (Err x) P Q f h = tt

-- the part that a test picks
pub picks_first : (old new x y : List ℕ) (is test : Bool) → is ≡ test → is ≡ true → new ≡ old ++ x
    → new ≡ old ++ cond test x y
picks_first old new x y is test value true_there e =
    e ∙ ap (λ (xs : List ℕ). old ++ xs) (sym (cond-true test x y (sym value ∙ true_there)))

pub picks_second : (old new x y : List ℕ) (is test : Bool) → is ≡ test → is ≡ false → new ≡ old ++ y
    → new ≡ old ++ cond test x y
picks_second old new x y is test value false_there e =
    e ∙ ap (λ (xs : List ℕ). old ++ xs) (sym (cond-false test x y (sym value ∙ false_there)))

-- the elements of the first constraints, and of one more
pub holds_none : (f : Form) (g : Constraint → Form) (xs : List Constraint) → f ≡ holding_all f (map g (take 0 xs))
unfolding holding_all
holds_none f g xs = ap (λ (ys : List ℕ). record f { inside = ys }) (sym (append-nil f.inside))

pub holds_more : (f old new e : Form) (g : Constraint → Form) (xs : List Constraint) (n : ℕ) (d : Constraint)
    → n < length xs
    → old ≡ holding_all f (map g (take n xs)) → e ≡ g (get_or xs n d) → new ≡ holding old e
    → new ≡ holding_all f (map g (take (n + 1) xs))
unfolding holding holding_all
holds_more f old new e g xs n d lt before is after =
    let first = map g (take n xs) in
    let one = g (get_or xs n d) in
    after ∙ ap (λ x. holding x e) before ∙ ap (λ x. holding (holding_all f first) x) is
    ∙ ap (λ (ys : List ℕ). record f { inside = ys })
    (append_assoc f.inside (flat_map form_text first) (form_text one)
    ∙ ap (λ (ys : List ℕ). f.inside ++ ys)
    (ap (λ (ys : List ℕ). flat_map form_text first ++ ys) (sym (append-nil (form_text one)))
    ∙ sym (flat_map-append form_text first (one ∷ []))
    ∙ ap (flat_map form_text) (sym (map_more g xs n d lt))))
