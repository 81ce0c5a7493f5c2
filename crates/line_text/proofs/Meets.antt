-- What a table with no refusal has at its keys.
use Rattle.std.proofs.Common.{◌≡◌, ◌∙◌, ◌<◌, ◌≤◌, ◌^◌, ◌&&◌, ℕ, ℤ, pos, negsuc, Bool, true, false, not, cond, List, [], ◌∷◌, length, refl, ap, sym, Option, Some, None, is_none, option_map, option_and_then, MatchOption, IfSome, nat_le, suc, unwrap_or, Ordering, Less, Equal, Greater, arith, inl, inr}
use Rattle.std.specs.List.{list_all, AllByRecursion, filter, filter_map}
use Rattle.std.specs.Option.{option_or, option_map_or}
use Rattle.std.specs.Ordering.{nat_cmp, is_eq, match_ordering}
use Rattle.std.specs.Cmp.Lexicographic.{slice_cmp}
use Rattle.std.proofs.lemmas.Bool.{cases_Bool, false≢true, and_parts, lt-ltb, le-leb, leb-true}
use Rattle.std.proofs.lemmas.Option.{none-some}
use Rattle.std.proofs.lemmas.Map.Text.{is_eq-slice_cmp}
use Rattle.std.proofs.lemmas.Slice.Eq.{bytes_eq-Decides}
use Rattle.toml.specs.Data.{Data, string, integer, array, table, Items, Members, no_members, member, get_member, as_integer, as_str}
use Rattle.line_text.specs.declared.fields.Field.{Field}
use Rattle.line_text.specs.declared.fields.Kind.{Kind}
use Rattle.line_text.specs.declared.fields.Kind.TheVariants.{Integer, Text, Tables, Texts}
use Rattle.line_text.specs.declared.fields.Rule.{Rule}
use Rattle.line_text.specs.declared.why.Place.{Place}
use Rattle.line_text.specs.declared.why.Why.{Why}
use Rattle.line_text.specs.declared.why.Why.TheVariants.{Missing, WrongKind, Range}
use Rattle.line_text.specs.Fields.{name_of, must_have, may_have}
use Rattle.line_text.specs.Values.{list_of, elements, natural, member_keys, value_at, number_at, number_if, text_if, items_at}
use Rattle.hoist_base.specs.Firsts.{first_some, given}
use Rattle.line_text.specs.Tables.{key_at, missing_why, first_text, unknown_why, kind_why, range_why, table_why, is_kind, is_table, is_text, is_in_range, extent, is_listed}
use Rattle.hoist_base.proofs.Firsts.{or_left, or_right, both_none, given_none, first_some_none, none_from_each}

-- a value of the kind, in its range
abbrev pub Allowed : Kind → Data → Type 0
Allowed (Integer low high) d = (n : ℕ) × (d ≡ integer (pos n)) × (low ≤ n) × (n ≤ high)
Allowed Text d = (s : List ℕ) × (d ≡ string s)
Allowed (Tables low high) d = (items : Items) × (d ≡ array items) × (list_all is_table (list_of items) ≡ true)
    × (low ≤ length (list_of items)) × (length (list_of items) ≤ high)
Allowed (Texts low high) d = (items : Items) × (d ≡ array items) × (list_all is_text (list_of items) ≡ true)
    × (low ≤ length (list_of items)) × (length (list_of items) ≤ high)

-- what stands at a rule's key is allowed
abbrev pub Meets : Data → Rule → Type 0
Meets t r = MatchOption (value_at t r.field) (r.required ≡ false) (Allowed r.kind)

true_from_not : (b : Bool) → not b ≡ false → b ≡ true
true_from_not true h = refl
true_from_not false h = absurd (false≢true (sym h))

between : (low high n : ℕ) → (nat_le low n && nat_le n high) ≡ true → (low ≤ n) × (n ≤ high)
between low high n h =
    let parts = and_parts (nat_le low n) (nat_le n high) h in
    (leb-true low n parts.0, leb-true n high parts.1)

within_between : (low high n : ℕ) → low ≤ n → n ≤ high → (nat_le low n && nat_le n high) ≡ true
within_between low high n a b = rw (le-leb low n a, le-leb n high b)

-- ---- from no refusal to what stands there

kind_holds : (b : Bool) (w : Why) → given (not b) w ≡ None → b ≡ true
kind_holds b w h = true_from_not b (given_none (not b) w h)

allowed_from : (k : Kind) (d : Data) (w : Why) (g : ℤ → Why) → given (not (is_kind k d)) w ≡ None
    → option_and_then (λ z. given (not (is_in_range k z)) (g z)) (extent d) ≡ None → Allowed k d
allowed_from (Integer low high) (integer (pos n)) w g h e =
    let parts = between low high n (kind_holds _ (g (pos n)) e) in (n, refl, parts.0, parts.1)
allowed_from (Integer low high) (integer (negsuc n)) w g h e = absurd (none-some (g (negsuc n)) (sym e))
allowed_from (Integer low high) d w g h e = absurd (none-some w (sym h))
allowed_from Text (string s) w g h e = (s, refl)
allowed_from Text d w g h e = absurd (none-some w (sym h))
allowed_from (Tables low high) (array items) w g h e =
    let parts = between low high (length (list_of items)) (kind_holds _ (g (pos (length (list_of items)))) e) in
    (items, refl, kind_holds _ w h, parts.0, parts.1)
allowed_from (Tables low high) d w g h e = absurd (none-some w (sym h))
allowed_from (Texts low high) (array items) w g h e =
    let parts = between low high (length (list_of items)) (kind_holds _ (g (pos (length (list_of items)))) e) in
    (items, refl, kind_holds _ w h, parts.0, parts.1)
allowed_from (Texts low high) d w g h e = absurd (none-some w (sym h))

meets_from : (o : Option Data) (k : Kind) (required : Bool) (m w : Why) (g : ℤ → Why)
    → given (required && is_none o) m ≡ None
    → given (option_map_or (λ d. not (is_kind k d)) o false) w ≡ None
    → option_and_then (λ z. given (not (is_in_range k z)) (g z)) (option_and_then extent o) ≡ None
    → MatchOption o (required ≡ false) (Allowed k)
meets_from None k true m w g there kind range = absurd (none-some m (sym there))
meets_from None k false m w g there kind range = refl
meets_from (Some d) k required m w g there kind range = allowed_from k d w g kind range

rules_meet : (place : Place) (t : Data) (rules : List Rule) → AllByRecursion (λ r. missing_why place t r ≡ None) rules
    → AllByRecursion (λ r. kind_why place t r ≡ None) rules → AllByRecursion (λ r. range_why place t r ≡ None) rules
    → AllByRecursion (Meets t) rules
rules_meet place t [] a b c = tt
rules_meet place t (r ∷ rules) a b c = (
  meets_from (value_at t r.field) r.kind r.required (Missing (key_at place (name_of r.field)))
      (WrongKind (key_at place (name_of r.field))) (λ z. Range (key_at place (name_of r.field)) z) a.0 b.0 c.0,
  rules_meet place t rules a.1 b.1 c.1,
)

-- a table with no refusal has what its rules say, and no other key
pub table_meets : (place : Place) (rules : List Rule) (t : Data) → table_why place rules t ≡ None
    → AllByRecursion (Meets t) rules × (unknown_why place t rules ≡ None)
table_meets place rules t h =
    let missing = first_some (missing_why place t) rules in
    let unknown = unknown_why place t rules in
    let kinds = first_some (kind_why place t) rules in
    let ranges = first_some (range_why place t) rules in
    let after_missing = or_right missing (option_or unknown (option_or kinds ranges)) h in
    let after_unknown = or_right unknown (option_or kinds ranges) after_missing in (
      rules_meet place t rules
          (first_some_none (missing_why place t) rules (or_left missing (option_or unknown (option_or kinds ranges)) h))
          (first_some_none (kind_why place t) rules (or_left kinds ranges after_unknown))
          (first_some_none (range_why place t) rules (or_right kinds ranges after_unknown)),
      or_left unknown (option_or kinds ranges) after_missing,
    )

-- ---- and back

kind_none : (k : Kind) (d : Data) (w : Why) → Allowed k d → given (not (is_kind k d)) w ≡ None
kind_none (Integer low high) d w (n, e, a, b) = rw e
kind_none Text d w (s, e) = rw e
kind_none (Tables low high) d w (items, e, all, a, b) = rw (e, all)
kind_none (Texts low high) d w (items, e, all, a, b) = rw (e, all)

range_none : (k : Kind) (d : Data) (g : ℤ → Why) → Allowed k d
    → option_and_then (λ z. given (not (is_in_range k z)) (g z)) (extent d) ≡ None
range_none (Integer low high) d g (n, e, a, b) = rw (e, within_between low high n a b)
range_none Text d g (s, e) = rw e
range_none (Tables low high) d g (items, e, all, a, b) = rw (e, within_between low high (length (list_of items)) a b)
range_none (Texts low high) d g (items, e, all, a, b) = rw (e, within_between low high (length (list_of items)) a b)

missing_none : (o : Option Data) (k : Kind) (required : Bool) (m : Why) → MatchOption o (required ≡ false) (Allowed k)
    → given (required && is_none o) m ≡ None
missing_none None k required m h = rw h
missing_none (Some d) k true m h = refl
missing_none (Some d) k false m h = refl

kind_none_if : (o : Option Data) (k : Kind) (required : Bool) (w : Why) → MatchOption o (required ≡ false) (Allowed k)
    → given (option_map_or (λ d. not (is_kind k d)) o false) w ≡ None
kind_none_if None k required w h = refl
kind_none_if (Some d) k required w h = kind_none k d w h

range_none_if : (o : Option Data) (k : Kind) (required : Bool) (g : ℤ → Why)
    → MatchOption o (required ≡ false) (Allowed k)
    → option_and_then (λ z. given (not (is_in_range k z)) (g z)) (option_and_then extent o) ≡ None
range_none_if None k required g h = refl
range_none_if (Some d) k required g h = range_none k d g h

each_missing : (place : Place) (t : Data) (rules : List Rule) → AllByRecursion (Meets t) rules
    → AllByRecursion (λ r. missing_why place t r ≡ None) rules
each_missing place t [] h = tt
each_missing place t (r ∷ rules) h = (missing_none (value_at t r.field) r.kind r.required _ h.0, each_missing place t rules h.1)

each_kind : (place : Place) (t : Data) (rules : List Rule) → AllByRecursion (Meets t) rules
    → AllByRecursion (λ r. kind_why place t r ≡ None) rules
each_kind place t [] h = tt
each_kind place t (r ∷ rules) h = (kind_none_if (value_at t r.field) r.kind r.required _ h.0, each_kind place t rules h.1)

each_range : (place : Place) (t : Data) (rules : List Rule) → AllByRecursion (Meets t) rules
    → AllByRecursion (λ r. range_why place t r ≡ None) rules
each_range place t [] h = tt
each_range place t (r ∷ rules) h = (
  range_none_if (value_at t r.field) r.kind r.required
      (λ z. Range (key_at place (name_of r.field)) z) h.0,
  each_range place t rules h.1,
)

pub table_none : (place : Place) (rules : List Rule) (t : Data) → AllByRecursion (Meets t) rules
    → unknown_why place t rules ≡ None → table_why place rules t ≡ None
table_none place rules t h unknown =
    both_none _ _ (none_from_each (missing_why place t) rules (each_missing place t rules h))
    (both_none _ _ unknown
    (both_none _ _ (none_from_each (kind_why place t) rules (each_kind place t rules h))
    (none_from_each (range_why place t) rules (each_range place t rules h))))

-- ---- what values at keys give

pub natural_small : (n : ℕ) → n < 2 ^ 32 → natural (pos n) ≡ n
natural_small n h = rw (lt-ltb n (2 ^ 32) h)

number_on : (o : Option Data) (low high : ℕ) → high < 2 ^ 32 → MatchOption o (true ≡ false) (Allowed (Integer low high))
    → (low ≤ unwrap_or (option_map natural (option_and_then as_integer o)) 0) × (unwrap_or (option_map natural (option_and_then as_integer o)) 0 ≤ high)
number_on None low high small h = absurd (false≢true (sym h))
number_on (Some d) low high small (n, e, a, b) = rw (e, natural_small n (omega arith)) (a, b)

-- a required integer
pub number_meets : (t : Data) (f : Field) (low high : ℕ) → high < 2 ^ 32 → Meets t (must_have f (Integer low high))
    → (low ≤ number_at t f) × (number_at t f ≤ high)
number_meets t f low high small h = number_on (value_at t f) low high small h

number_if_on : (o : Option Data) (low high : ℕ) → high < 2 ^ 32
    → MatchOption o (false ≡ false) (Allowed (Integer low high))
    → IfSome (option_map natural (option_and_then as_integer o)) (λ n. (low ≤ n) × (n ≤ high))
number_if_on None low high small h = tt
number_if_on (Some d) low high small (n, e, a, b) = rw (e, natural_small n (omega arith)) (a, b)

-- an integer that may be absent
pub number_if_meets : (t : Data) (f : Field) (low high : ℕ) → high < 2 ^ 32 → Meets t (may_have f (Integer low high))
    → IfSome (number_if t f) (λ n. (low ≤ n) × (n ≤ high))
number_if_meets t f low high small h = number_if_on (value_at t f) low high small h

text_on : (o : Option Data) → MatchOption o (true ≡ false) (Allowed Text)
    → (s : List ℕ) × (option_and_then as_str o ≡ Some s)
text_on None h = absurd (false≢true (sym h))
text_on (Some d) (s, e) = (s, rw e)

-- a required string
pub text_meets : (t : Data) (f : Field) → Meets t (must_have f Text) → (s : List ℕ) × (text_if t f ≡ Some s)
text_meets t f h = text_on (value_at t f) h

tables_on : (o : Option Data) (low high : ℕ) → MatchOption o (true ≡ false) (Allowed (Tables low high))
    → (low ≤ length (unwrap_or (option_and_then elements o) [])) × (length (unwrap_or (option_and_then elements o) []) ≤ high)
tables_on None low high h = absurd (false≢true (sym h))
tables_on (Some d) low high (items, e, all, a, b) = rw e (a, b)

-- a required array of tables
pub tables_meet : (t : Data) (f : Field) (low high : ℕ) → Meets t (must_have f (Tables low high))
    → (low ≤ length (items_at t f)) × (length (items_at t f) ≤ high)
tables_meet t f low high h = tables_on (value_at t f) low high h

all_texts_kept : (ds : List Data) → list_all is_text ds ≡ true → length (filter_map as_str ds) ≡ length ds
all_texts_kept [] h = refl
all_texts_kept (string s ∷ ds) h = ap (λ n. suc n) (all_texts_kept ds h)
all_texts_kept (d ∷ ds) h = absurd (false≢true h)

texts_on : (o : Option Data) (low high : ℕ) → MatchOption o (true ≡ false) (Allowed (Texts low high))
    → (low ≤ length (filter_map as_str (unwrap_or (option_and_then elements o) [])))
    × (length (filter_map as_str (unwrap_or (option_and_then elements o) [])) ≤ high)
texts_on None low high h = absurd (false≢true (sym h))
texts_on (Some d) low high (items, e, all, a, b) = rw (e, all_texts_kept (list_of items) all) (a, b)

-- a required array of strings
pub texts_meet : (t : Data) (f : Field) (low high : ℕ) → Meets t (must_have f (Texts low high))
    → (low ≤ length (filter_map as_str (items_at t f))) × (length (filter_map as_str (items_at t f)) ≤ high)
texts_meet t f low high h = texts_on (value_at t f) low high h

-- ---- a key that isn't listed is absent

option_map_none : {X Y : Type 0} (f : X → Y) (o : Option X) → option_map f o ≡ None → o ≡ None
option_map_none f None h = refl
option_map_none f (Some x) h = absurd (none-some (f x) (sym h))

no_texts : (xs : List (List ℕ)) → first_text xs ≡ None → xs ≡ []
no_texts [] h = refl
no_texts (x ∷ xs) h = absurd (none-some _ (sym h))

cons_not_nil : {X : Type 0} (x : X) (xs : List X) → x ∷ xs ≡ [] → ⊥
cons_not_nil x xs h = cc

kept_none : (p : List ℕ → Bool) (l : List ℕ) (rest : List (List ℕ)) → cond (p l) (l ∷ rest) rest ≡ []
    → (p l ≡ false) × (rest ≡ [])
kept_none p l rest h =
    elim (cases_Bool (p l)) [
      | inl passes ↦ absurd (cons_not_nil l rest (rw passes at h))
      | inr fails ↦ (fails, rw fails at h)
    ]

absent_step : (o : Ordering) (k l : List ℕ) (d : Data) (rest : Option Data) → o ≡ slice_cmp nat_cmp k l → (k ≡ l → ⊥)
    → rest ≡ None → match_ordering o rest (Some d) rest ≡ None
absent_step Less k l d rest e differ h = h
absent_step Equal k l d rest e differ h =
    absurd (differ ((bytes_eq-Decides k l).0 (sym (is_eq-slice_cmp k l) ∙ ap is_eq (sym e))))
absent_step Greater k l d rest e differ h = h

absent_member : (p : List ℕ → Bool) (k : List ℕ) (ms : Members) → filter p (member_keys ms) ≡ [] → p k ≡ true
    → get_member k ms ≡ None
absent_member p k no_members h passes = refl
absent_member p k (member l d rest) h passes =
    let (fails, others) = kept_none p l (filter p (member_keys rest)) h in
    absent_step (slice_cmp nat_cmp k l) k l d (get_member k rest) refl (λ same. false≢true
    (sym fails ∙ ap p (sym same) ∙ passes)) (absent_member p k rest others passes)

pub absent : (place : Place) (rules : List Rule) (t : Data) (f : Field) → unknown_why place t rules ≡ None
    → is_listed rules (name_of f) ≡ false → value_at t f ≡ None
absent place rules (table ms) f h unlisted =
    absent_member (λ key. not (is_listed rules key)) (name_of f) ms (no_texts _ (option_map_none _ _ h)) (rw unlisted)
absent place rules d f h unlisted = refl
