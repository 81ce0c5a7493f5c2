-- Texts of trees, one behind the other.
use Rattle.std.proofs.Common.{◌≡◌, ℕ, ◌+◌, List, [], ◌∷◌, ◌++◌, map, refl, sym, ap, ◌∙◌, append_assoc, arith}
use Rattle.std.specs.List.{flat_map, range_with_len}
use Rattle.std.proofs.lemmas.List.{append-nil, map-id}
use Rattle.std.proofs.lemmas.Grind.{flat_map-append}
use Rattle.std.proofs.lemmas.List.FromFn.{map-range_with_len_more}
use Rattle.markup.specs.declared.words.Tag.{Tag}
use Rattle.markup.specs.declared.words.Key.{Key}
use Rattle.markup.specs.Escape.{escaped}
use Rattle.markup.specs.Forms.{Form, form, form_text, element_text, attribute_text, Forest, nothing, words, element, attributes_text, forest_text, AreAttributes, IsInside, IsDocument, document_text, holding, holding_all}

range_more : (n : ℕ) → range_with_len 0 (n + 1) ≡ range_with_len 0 n ++ n ∷ []
range_more n =
    sym (map-id (range_with_len 0 (n + 1))) ∙ map-range_with_len_more (λ (x : ℕ). x) 0 n n (omega arith)
    ∙ ap (λ (xs : List ℕ). xs ++ n ∷ []) (map-id (range_with_len 0 n))

-- what one forest holds, and then what another one does
abbrev joined : Forest → Forest → Forest
joined nothing g = g
joined (words w rest) g = words w (joined rest g)
joined (element tag list inside rest) g = element tag list inside (joined rest g)

joined_text : (f g : Forest) → forest_text (joined f g) ≡ forest_text f ++ forest_text g
joined_text nothing g = refl
joined_text (words w rest) g =
    ap (λ (xs : List ℕ). escaped w ++ xs) (joined_text rest g) ∙ sym (append_assoc (escaped w) (forest_text rest) (forest_text g))
joined_text (element tag list inside rest) g =
    ap (λ (xs : List ℕ). element_text tag (attributes_text list) (forest_text inside) ++ xs) (joined_text rest g)
    ∙ sym (append_assoc (element_text tag (attributes_text list) (forest_text inside)) (forest_text rest) (forest_text g))

pub no_attributes : AreAttributes []
no_attributes = ([], refl)

pub holds_nothing : IsInside []
holds_nothing = (nothing, refl)

-- one attribute more
pub attribute_more : (text new : List ℕ) (key : Key) (value : List ℕ) → AreAttributes text
    → new ≡ text ++ attribute_text key value
    → AreAttributes new
attribute_more text new key value (list, is) after = (
  list ++ (key, value) ∷ [],
  after ∙ ap (λ (xs : List ℕ). xs ++ attribute_text key value) is
      ∙ ap (λ (xs : List ℕ). attributes_text list ++ xs) (sym (append-nil (attribute_text key value)))
      ∙ sym (flat_map-append (λ (a : Key × List ℕ). attribute_text a.0 a.1) list ((key, value) ∷ [])),
)

-- more words
pub words_more : (text new w : List ℕ) → IsInside text → new ≡ text ++ escaped w → IsInside new
words_more text new w (forest, is) after = (
  joined forest (words w nothing),
  after ∙ ap (λ (xs : List ℕ). xs ++ escaped w) is
      ∙ ap (λ (xs : List ℕ). forest_text forest ++ xs) (sym (append-nil (escaped w)))
      ∙ sym (joined_text forest (words w nothing)),
)

-- one element more
pub element_more : (text new : List ℕ) (f : Form) → IsInside text → AreAttributes f.attributes → IsInside f.inside
    → new ≡ text ++ form_text f → IsInside new
element_more text new f (forest, is) (list, attributes) (inside, holds) after = (
  joined forest (element f.tag list inside nothing),
  after ∙ ap (λ (xs : List ℕ). xs ++ form_text f) is
      ∙ ap (λ (xs : List ℕ). forest_text forest ++ element_text f.tag xs f.inside) attributes
      ∙ ap (λ (xs : List ℕ). forest_text forest ++ element_text f.tag (attributes_text list) xs) holds
      ∙ ap (λ (xs : List ℕ). forest_text forest ++ xs)
      (sym (append-nil (element_text f.tag (attributes_text list) (forest_text inside))))
      ∙ sym (joined_text forest (element f.tag list inside nothing)),
)

-- a document whose element is of a tree
pub tree_of : (text : List ℕ) (f : Form) → AreAttributes f.attributes → IsInside f.inside → text ≡ document_text f
    → IsDocument text
tree_of text f (list, attributes) (inside, holds) is = (
  f.tag,
  list,
  inside,
  is ∙ ap (λ (xs : List ℕ). document_text (form f.tag xs f.inside)) attributes
      ∙ ap (λ (xs : List ℕ). document_text (form f.tag (attributes_text list) xs)) holds,
)

-- one part more behind the first ones
pub one_more : (old text new : List ℕ) (n : ℕ) (part : ℕ → List ℕ) → text ≡ old ++ flat_map part (range_with_len 0 n)
    → new ≡ text ++ part n → new ≡ old ++ flat_map part (range_with_len 0 (n + 1))
one_more old text new n part before after =
    let first = flat_map part (range_with_len 0 n) in
    after ∙ ap (λ (xs : List ℕ). xs ++ part n) before ∙ append_assoc old first (part n)
    ∙ ap (λ (xs : List ℕ). old ++ xs)
    (ap (λ (xs : List ℕ). first ++ xs) (sym (append-nil (part n)))
    ∙ sym (flat_map-append part (range_with_len 0 n) (n ∷ []))
    ∙ ap (flat_map part) (sym (range_more n)))

-- one element more behind the first ones
pub holds_more : (f old new e : Form) (g : ℕ → Form) (n : ℕ) → old ≡ holding_all f (map g (range_with_len 0 n))
    → e ≡ g n
    → new ≡ holding old e → new ≡ holding_all f (map g (range_with_len 0 (n + 1)))
unfolding holding holding_all
holds_more f old new e g n before is after =
    let first = map g (range_with_len 0 n) in
    after ∙ ap (λ x. holding x e) before ∙ ap (λ x. holding (holding_all f first) x) is
    ∙ ap (λ (xs : List ℕ). record f { inside = xs })
    (append_assoc f.inside (flat_map form_text first) (form_text (g n))
    ∙ ap (λ (xs : List ℕ). f.inside ++ xs)
    (ap (λ (xs : List ℕ). flat_map form_text first ++ xs) (sym (append-nil (form_text (g n))))
    ∙ sym (flat_map-append form_text first (g n ∷ []))
    ∙ ap (flat_map form_text) (sym (map-range_with_len_more g 0 n n (omega arith)))))

pub holds_none : (f : Form) (g : ℕ → Form) → f ≡ holding_all f (map g (range_with_len 0 0))
unfolding holding_all
holds_none f g = ap (λ (xs : List ℕ). record f { inside = xs }) (sym (append-nil f.inside))
