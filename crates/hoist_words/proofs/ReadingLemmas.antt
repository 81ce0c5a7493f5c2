-- Words have at most one reading as items.
use Rattle.std.proofs.Common.{◌≡◌, ◌==◌, ℕ, zero, suc, ◌<◌, ◌≤◌, ◌∙◌, Bool, true, false, List, [], ◌∷◌, ◌++◌, length, get_or, drop, codes, Contains}
use Rattle.std.proofs.Common.{if◌then◌else◌, inl, inr, refl, sym, ap, subst, arith, Option, Some, None, Bor, nat_eq, slice_index_or, true≢false}
use Rattle.std.proofs.Common.{ne_eqb, is_some, ◌⊎◌}
use Rattle.std.specs.Prelude.{not}
use Rattle.hoist_words.specs.Request.{Item, File, Given, Says, AreKnown, IsFileName, option_names, values_of, is_budget, is_workers, is_carriers, is_upto}
use Rattle.hoist_words.specs.Forms.{name_of, opening, joined, IsForm}
use Rattle.hoist_words.specs.Found.{AreOptions, AreFew, IsFound, IsOptionFit, IsPlainFor, IsWith, listed}
use Rattle.hoist_words.specs.declared.table.Limits.{Limits}
use Rattle.hoist_words.specs.declared.forms.Name.{Name}
use Rattle.hoist_words.specs.declared.forms.Name.TheVariants.{Budget, Workers, Carriers, Upto}
use Rattle.hoist_words.specs.declared.forms.Form.TheVariants.{Other}
use Rattle.hoist_words.specs.declared.found.Found.{Found}

-- the names of options

named : (name : List ℕ) → Contains option_names name → (m : Name) × (name ≡ name_of m)
named name (zero, lt, e) = (Budget, sym e)
named name (suc zero, lt, e) = (Workers, sym e)
named name (suc (suc zero), lt, e) = (Carriers, sym e)
named name (suc (suc (suc zero)), lt, e) = (Upto, sym e)
named name (suc (suc (suc (suc k))), lt, e) = absurd (omega (arith, lt))

is_named : (m : Name) → Contains option_names (name_of m)
is_named Budget = (0, omega arith, refl)
is_named Workers = (1, omega arith, refl)
is_named Carriers = (2, omega arith, refl)
is_named Upto = (3, omega arith, refl)

-- the name behind two dashes, by its first byte
abbrev name_in_word : List ℕ → Name
name_in_word w = if get_or w 2 0 == 98 then Budget else if get_or w 2 0 == 119 then Workers else if get_or w 2 0 == 99 then Carriers else Upto

in_opening : (m : Name) → name_in_word (opening (name_of m)) ≡ m
in_opening Budget = refl
in_opening Workers = refl
in_opening Carriers = refl
in_opening Upto = refl

in_joined : (m : Name) (v : List ℕ) → name_in_word (joined (name_of m) v) ≡ m
in_joined Budget v = refl
in_joined Workers v = refl
in_joined Carriers v = refl
in_joined Upto v = refl

longer : (m : Name) (v : List ℕ) → length (opening (name_of m)) < length (joined (name_of m) v)
longer Budget v = omega arith
longer Workers v = omega arith
longer Carriers v = omega arith
longer Upto v = omega arith

value_behind : (m : Name) (v : List ℕ) → drop (suc (length (opening (name_of m)))) (joined (name_of m) v) ≡ v
value_behind Budget v = refl
value_behind Workers v = refl
value_behind Carriers v = refl
value_behind Upto v = refl

joined_not_opening : (m n : Name) (v : List ℕ) → joined (name_of m) v ≡ opening (name_of n) → ⊥
joined_not_opening m n v e =
    let same : m ≡ n = sym (in_joined m v) ∙ ap name_in_word e ∙ in_opening n in
    let l : length (joined (name_of m) v) ≡ length (opening (name_of m)) = ap length (e ∙ ap (λ x. opening (name_of x)) (sym same)) in
    omega (arith, longer m v, l)

same_opening : (m n : Name) → opening (name_of m) ≡ opening (name_of n) → m ≡ n
same_opening m n e = sym (in_opening m) ∙ ap name_in_word e ∙ in_opening n

same_joined : (m n : Name) (v u : List ℕ) → joined (name_of m) v ≡ joined (name_of n) u → (m ≡ n) × (v ≡ u)
same_joined m n v u e =
    let same : m ≡ n = sym (in_joined m v) ∙ ap name_in_word e ∙ in_joined n u in
    let at : joined (name_of m) v ≡ joined (name_of m) u = e ∙ ap (λ x. joined (name_of x) u) (sym same) in
    (same, sym (value_behind m v) ∙ ap (drop (suc (length (opening (name_of m))))) at ∙ value_behind m u)

dashed : (w rest : List ℕ) → w ≡ codes "--" ++ rest → IsFileName w → ⊥
dashed w rest e file = subst IsFileName e file refl

-- known names

pub known_tail : (names : List (List ℕ)) (item : Item) (items : List Item) → AreKnown names (item ∷ items)
    → AreKnown names items
known_tail names item items known name value c = known name value (suc c.0, omega (arith, c.1), c.2)

pub options_tail : (item : Item) (items : List Item) → AreOptions (item ∷ items) → AreOptions items
options_tail = known_tail option_names

pub known_name : (items : List Item) (name value : List ℕ) → AreOptions (Given name value ∷ items)
    → (m : Name) × (name ≡ name_of m)
known_name items name value known = named name (known name value (0, omega arith, refl))

abbrev name_in : Item → List ℕ
name_in (File name) = []
name_in (Given name value) = name

abbrev is_given : Item → ℕ
is_given (File name) = 0
is_given (Given name value) = 1

file_known : (w : List ℕ) (items : List Item) → AreOptions items → AreOptions (File w ∷ items)
file_known w items known name value (zero, lt, e) = let f : 0 ≡ 1 = ap is_given e in absurd (omega (arith, f))
file_known w items known name value (suc k, lt, e) = known name value (k, omega (arith, lt), e)

given_known : (m : Name) (v : List ℕ) (items : List Item) → AreOptions items → AreOptions (Given (name_of m) v ∷ items)
given_known m v items known name value (zero, lt, e) =
    let f : name_of m ≡ name = ap name_in e in subst (Contains option_names) f (is_named m)
given_known m v items known name value (suc k, lt, e) = known name value (k, omega (arith, lt), e)

-- every reading of the words begins with this item, and goes on with the words behind it
pub record Begins (item : Item) (words rest : List (List ℕ)) : Type 0 where
  pub says : (items : List Item) → Says items rest → Says (item ∷ items) words
  pub known : (items : List Item) → AreOptions items → AreOptions (item ∷ items)
  pub only : (items : List Item) → Says items words → AreOptions items
      → (others : List Item) × (items ≡ item ∷ others) × Says others rest

no_words : (w : List ℕ) (ws : List (List ℕ)) → w ∷ ws ≡ [] → ⊥
no_words w ws e = let f : suc (length ws) ≡ 0 = ap length e in omega (arith, f)

pub only_file : (w : List ℕ) (ws : List (List ℕ)) (items : List Item) → IsFileName w → Says items (w ∷ ws)
    → AreOptions items
    → (others : List Item) × (items ≡ File w ∷ others) × Says others ws
only_file w ws [] file says known = absurd (no_words w ws says)
only_file w ws (File name ∷ items) file (e, f, s) known = (items, ap (λ n. File n ∷ items) (sym e), s)
only_file w ws (Given name value ∷ items) file (inl (e, s)) known = absurd (dashed w _ e file)
only_file w ws (Given name value ∷ items) file (inr (e, s)) known = absurd (dashed w _ e file)

pub only_joined : (m : Name) (v w : List ℕ) (ws : List (List ℕ)) (items : List Item) → w ≡ joined (name_of m) v
    → Says items (w ∷ ws) → AreOptions items
    → (others : List Item) × (items ≡ Given (name_of m) v ∷ others) × Says others ws
only_joined m v w ws [] is says known = absurd (no_words w ws says)
only_joined m v w ws (File name ∷ items) is (e, f, s) known = absurd (dashed w _ is (subst IsFileName (sym e) f))
only_joined m v w ws (Given name value ∷ items) is (inl (e, s)) known =
    let (n, en) = known_name items name value known in
    let same = same_joined n m value v (sym (ap (λ x. joined x value) en) ∙ sym e ∙ is) in
    let at : name ≡ name_of m = en ∙ ap name_of same.0 in
    (items, ap (λ x. Given x value ∷ items) at ∙ ap (λ x. Given (name_of m) x ∷ items) same.1, s)
only_joined m v w ws (Given name value ∷ items) is (inr (e, s)) known =
    let (n, en) = known_name items name value known in
    absurd (joined_not_opening m n v (sym is ∙ e ∙ ap opening en))

head_same : (a b : List ℕ) (more others : List (List ℕ)) → a ∷ more ≡ b ∷ others → (a ≡ b) × (more ≡ others)
head_same a b more others e = (ap (λ (xs : List (List ℕ)). get_or xs 0 []) e, ap (drop 1) e)

pub only_opening : (m : Name) (v w : List ℕ) (ws : List (List ℕ)) (items : List Item) → w ≡ opening (name_of m)
    → Says items (w ∷ v ∷ ws) → AreOptions items
    → (others : List Item) × (items ≡ Given (name_of m) v ∷ others) × Says others ws
only_opening m v w ws [] is says known = absurd (no_words w (v ∷ ws) says)
only_opening m v w ws (File name ∷ items) is (e, f, s) known = absurd (dashed w _ is (subst IsFileName (sym e) f))
only_opening m v w ws (Given name value ∷ items) is (inl (e, s)) known =
    let (n, en) = known_name items name value known in
    absurd (joined_not_opening n m value (sym (ap (λ x. joined x value) en) ∙ sym e ∙ is))
only_opening m v w ws (Given name value ∷ items) is (inr (e, (rest, ew, s))) known =
    let (n, en) = known_name items name value known in
    let same = same_opening n m (sym (ap opening en) ∙ sym e ∙ is) in
    let at : name ≡ name_of m = en ∙ ap name_of same in
    let (ev, er) = head_same v value ws rest ew in
    (items, ap (λ x. Given x value ∷ items) at ∙ ap (λ x. Given (name_of m) x ∷ items) (sym ev), subst (Says items) (sym er) s)

-- an option's name as the last word says nothing
pub none_opening : (m : Name) (w : List ℕ) (items : List Item) → w ≡ opening (name_of m) → Says items (w ∷ [])
    → AreOptions items → ⊥
none_opening m w [] is says known = no_words w [] says
none_opening m w (File name ∷ items) is (e, f, s) known = dashed w _ is (subst IsFileName (sym e) f)
none_opening m w (Given name value ∷ items) is (inl (e, s)) known =
    let (n, en) = known_name items name value known in
    joined_not_opening n m value (sym (ap (λ x. joined x value) en) ∙ sym e ∙ is)
none_opening m w (Given name value ∷ items) is (inr (e, (rest, ew, s))) known = no_words value rest (sym ew)

-- nor does a word of another form
pub none_other : (w : List ℕ) (ws : List (List ℕ)) (items : List Item) → IsForm w Other → Says items (w ∷ ws)
    → AreOptions items → ⊥
none_other w ws [] is says known = no_words w ws says
none_other w ws (File name ∷ items) is (e, f, s) known = is.0 (subst IsFileName (sym e) f)
none_other w ws (Given name value ∷ items) is (inl (e, s)) known =
    let (n, en) = known_name items name value known in
    (is.1 n).1 value (e ∙ ap (λ x. joined x value) en)
none_other w ws (Given name value ∷ items) is (inr (e, s)) known =
    let (n, en) = known_name items name value known in
    (is.1 n).0 (e ∙ ap opening en)

pub begins_file : (w : List ℕ) (ws : List (List ℕ)) → IsFileName w → Begins (File w) (w ∷ ws) ws
begins_file w ws file = record {
  says = λ items s. (refl, file, s);
  known = λ items. file_known w items;
  only = λ items. only_file w ws items file;
}

pub begins_joined : (m : Name) (v w : List ℕ) (ws : List (List ℕ)) → w ≡ joined (name_of m) v
    → Begins (Given (name_of m) v) (w ∷ ws) ws
begins_joined m v w ws is = record {
  says = λ items s. inl (is, s);
  known = given_known m v;
  only = λ items. only_joined m v w ws items is;
}

pub begins_opening : (m : Name) (v w : List ℕ) (ws : List (List ℕ)) → w ≡ opening (name_of m)
    → Begins (Given (name_of m) v) (w ∷ v ∷ ws) ws
begins_opening m v w ws is = record {
  says = λ items s. inr (is, (ws, refl, s));
  known = given_known m v;
  only = λ items. only_opening m v w ws items is;
}

-- the first item of a reading
begins : (item : Item) (items : List Item) (words : List (List ℕ)) → Says (item ∷ items) words
    → AreOptions (item ∷ items)
    → (rest : List (List ℕ)) × Begins item words rest × Says items rest
begins (File name) items [] says known = absurd says
begins (File name) items (w ∷ ws) (e, f, s) known =
    (ws, subst (λ x. Begins (File x) (w ∷ ws) ws) e (begins_file w ws (subst IsFileName (sym e) f)), s)
begins (Given name value) items [] says known = absurd says
begins (Given name value) items (w ∷ ws) (inl (e, s)) known =
    let (n, en) = known_name items name value known in
    (ws, subst (λ x. Begins (Given x value) (w ∷ ws) ws) (sym en) (begins_joined n value w ws (e ∙ ap (λ x. joined x value) en)), s)
begins (Given name value) items (w ∷ ws) (inr (e, (rest, ew, s))) known =
    let (n, en) = known_name items name value known in
    let b : Begins (Given (name_of n) value) (w ∷ value ∷ rest) rest = begins_opening n value w rest (e ∙ ap opening en) in
    let at = subst (λ x. Begins (Given x value) (w ∷ value ∷ rest) rest) (sym en) b in
    (rest, subst (λ x. Begins (Given name value) (w ∷ x) rest) (sym ew) at, s)

no_items : (items : List Item) → Says items [] → [] ≡ items
no_items [] says = refl
no_items (File name ∷ items) says = absurd says
no_items (Given name value ∷ items) says = absurd says

-- words have at most one reading
pub one_reading : (a b : List Item) (words : List (List ℕ)) → Says a words → AreOptions a → Says b words → AreOptions b
    → a ≡ b
one_reading [] b words sa ka sb kb = no_items b (subst (Says b) sa sb)
one_reading (item ∷ a) b words sa ka sb kb =
    let (rest, first, s) = begins item a words sa ka in
    let (others, e, t) = first.only b sb kb in
    let known : AreOptions others = options_tail item others (subst AreOptions e kb) in
    ap (λ x. item ∷ x) (one_reading a others rest s (options_tail item a ka) t known) ∙ sym e

-- fewer items are few
shorter : (b : Bool) (v : List ℕ) (vs : List (List ℕ)) → length vs ≤ length (if b then v ∷ vs else vs)
shorter true v vs = omega arith
shorter false v vs = omega arith

few_tail : (item : Item) (items : List Item) → AreFew (item ∷ items) → AreFew items
few_tail (File name) items (f, b, w, c, u) = (omega (arith, f), b, w, c, u)
few_tail (Given name value) items (f, b, w, c, u) = (
  f,
  omega (arith, b, shorter (is_budget name) value (values_of is_budget items)),
  omega (arith, w, shorter (is_workers name) value (values_of is_workers items)),
  omega (arith, c, shorter (is_carriers name) value (values_of is_carriers items)),
  omega (arith, u, shorter (is_upto name) value (values_of is_upto items)),
)

-- what was found behind an item
pub found_more : (item : Item) (words rest : List (List ℕ)) (found : Found) (more : Option Found)
    → Begins item words rest → IsFound rest (Some found)
    → IsWith item found more → IsFound words more
found_more item words rest found None first (items, says, known, fits) more_is = λ others says' known' few.
    let (behind, e, t) = first.only others says' known' in
    let is_known : AreOptions behind = options_tail item behind (subst AreOptions e known') in
    let same : behind ≡ items = one_reading behind items rest t is_known says known in
    more_is items fits (subst (λ x. AreFew (item ∷ x)) same (subst AreFew e few))
found_more item words rest found (Some more) first (items, says, known, fits) more_is =
    (item ∷ items, first.says items says, first.known items known, more_is items fits)

pub found_none : (item : Item) (words rest : List (List ℕ)) → Begins item words rest → IsFound rest None
    → IsFound words None
found_none item words rest first none others says known few =
    let (behind, e, t) = first.only others says known in
    none behind t (options_tail item behind (subst AreOptions e known)) (few_tail item behind (subst AreFew e few))

-- the same for words of which the spelling is known

pub more_found : (item : Item) (words said rest : List (List ℕ)) (found : Found) (answer : Option Found) → words ≡ said
    → Begins item said rest
    → IsFound rest (Some found) → IsWith item found answer → IsFound words answer
more_found item words said rest found answer e first h w =
    subst (λ x. IsFound x answer) (sym e) (found_more item said rest found answer first h w)

pub none_found : (item : Item) (words said rest : List (List ℕ)) (answer : Option Found) → words ≡ said
    → Begins item said rest
    → IsFound rest None → answer ≡ None → IsFound words answer
none_found item words said rest answer e first h none =
    subst (λ x. IsFound words x) (sym none) (subst (λ x. IsFound x None) (sym e) (found_none item said rest first h))

-- ---- whether a value may be a number

fit_by_first : (limits : Option Limits) (b : ℕ) (bs : List ℕ) (t : Bool) → is_some limits ≡ true → nat_eq b 45 ≡ t
    → IsOptionFit limits ((b ∷ bs) ∷ []) (not t)
fit_by_first limits b bs true some e = λ plain. true≢false (sym e ∙ ne_eqb b 45 plain.1)
fit_by_first limits b bs false some e = (some, λ dash. true≢false (sym (ap (λ x. nat_eq x 45) dash) ∙ e))

fit_word : (limits : Option Limits) (w : List ℕ) → is_some limits ≡ true → nat_eq (length w) 0 ≡ false
    → IsOptionFit limits (w ∷ []) (not (nat_eq (slice_index_or w 0 0) 45))
fit_word limits [] some full = absurd (true≢false full)
fit_word limits (b ∷ bs) some full = fit_by_first limits b bs (nat_eq b 45) some refl

pub fit_value : (limits : Option Limits) (given : Option (Bor (List ℕ))) (value : Bor (List ℕ)) (bytes : List ℕ)
    → given ≡ Some value → bytes ≡ value.now
    → is_some limits ≡ true → nat_eq (length value.now) 0 ≡ false
    → IsOptionFit limits (listed given) (not (nat_eq (slice_index_or bytes 0 0) 45))
fit_value limits given value bytes e same some full =
    subst (λ g. IsOptionFit limits (listed g) (not (nat_eq (slice_index_or bytes 0 0) 45))) (sym e)
    (subst (λ w. IsOptionFit limits (value.now ∷ []) (not (nat_eq (slice_index_or w 0 0) 45))) (sym same) (fit_word limits value.now some full))

-- an empty value, or one that the command doesn't take, is no number
pub unfit_value : (limits : Option Limits) (given : Option (Bor (List ℕ))) (value : Bor (List ℕ)) → given ≡ Some value
    → (is_some limits ≡ false) ⊎ (length value.now ≡ 0) → IsOptionFit limits (listed given) false
unfit_value limits given value e why =
    subst (λ g. IsOptionFit limits (listed g) false) (sym e) (λ plain. no (value.now) why plain)
  where
    no : (w : List ℕ) → (is_some limits ≡ false) ⊎ (length w ≡ 0) → IsPlainFor limits (w ∷ []) → ⊥
    no w (inl none) plain = true≢false (sym plain.0 ∙ none)
    no [] (inr empty) plain = plain.1
    no (b ∷ bs) (inr empty) plain = omega (arith, empty)
