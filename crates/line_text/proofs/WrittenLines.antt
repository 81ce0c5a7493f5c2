-- The text of a line file as the lines of a TOML document.
use Rattle.std.proofs.Common.{◌≡◌, ◌∙◌, ℕ, ◌<◌, ◌≤◌, ◌^◌, ◌==◌, ◌&&◌, Bool, true, false, not, List, [], ◌∷◌, ◌++◌, map, codes, refl, sym, ap, pos, arith, append_assoc, nat_lt, nat_le, get_or}
use Rattle.std.specs.List.{list_all, list_any, flat_map, AllByRecursion}
use Rattle.std.specs.Str.{IsAscii}
use Rattle.std.proofs.lemmas.Bool.{and_parts, ltb-true}
use Rattle.std.proofs.lemmas.Bool.Decides.{nat_tests}
use Rattle.std.proofs.lemmas.Int.{fits_signed_from_abs}
use Rattle.std.specs.Int.{w64}
use Rattle.std.proofs.lemmas.Fmt.{IsAscii-decimal}
use Rattle.std.proofs.lemmas.Str.{IsAscii-append}
use Rattle.std.proofs.lemmas.Str.Ascii.{IsAscii-nil, IsAscii-from_all}
use Rattle.std.proofs.lemmas.List.Sums.{AllPass-from_list_all}
use Rattle.toml_writer.specs.Text.{is_control, has, needs_escape, escaped, encoding_of, string_text, key_text, dotted_text, quotes_after}
use Rattle.toml.specs.Data.{Data, string, integer, array, depth, items_depth, has_valid_dates, items_have_valid_dates}
use Rattle.toml.specs.View.{items_of}
use Rattle.toml.specs.Tables.{Expression, key_value, array_table}
use Rattle.toml.specs.Text.{IsValueText, IsItemsText, IsLineText, IsLinesText, breaks_lines}
use Rattle.toml.proofs.Lines.{IsLinesText-append}
use Rattle.toml.proofs.ReadLines.{AllPrinted}
use Rattle.line_text.specs.declared.fields.Field.{Field}
use Rattle.line_text.specs.declared.fields.Field.TheVariants as fields
use Rattle.line_text.specs.Fields.{name_of}
use Rattle.hoist_base.specs.Flaws.{is_name_byte}
use Rattle.line_text.specs.Written.{Written, one_number, one_name, several_names, Pair, quoted, names_text, value_text, pair_text, header_text}

-- ---- what is written, as TOML

abbrev pub data_of : Written → Data
data_of (one_number n) = integer (pos n)
data_of (one_name name) = string name
data_of (several_names names) = array (items_of (map string names))

abbrev pub pair_expression : Pair → Expression
pair_expression p = (([], name_of p.0), key_value (data_of p.1))

abbrev pub header_expression : Field → Expression
header_expression field = (([], name_of field), array_table)

-- a table with its header
abbrev pub table_expressions : Field → List Pair → List Expression
table_expressions field pairs = header_expression field ∷ map pair_expression pairs

-- names of the bytes of a name
abbrev pub IsNameText : List ℕ → Type 0
IsNameText name = list_all is_name_byte name ≡ true

-- what a file can hold: a number of 32 bits, and such names
abbrev pub CanStand : Written → Type 0
CanStand (one_number n) = n < 2 ^ 32
CanStand (one_name name) = IsNameText name
CanStand (several_names names) = AllByRecursion IsNameText names

abbrev pub AllStand : List Pair → Type 0
AllStand pairs = AllByRecursion (λ (p : Pair). CanStand p.1) pairs

-- ---- a name between quotes is how TOML writes it

no_control : (s : List ℕ) → IsNameText s → list_any is_control s ≡ false
no_control [] h = refl
no_control (b ∷ s) h =
    let (here, rest) = and_parts (is_name_byte b) (list_all is_name_byte s) h in
    let fine : is_control b ≡ false = grind (arith, nat_tests) in
    rw fine (no_control s rest)

not_in : (c : ℕ) (s : List ℕ) → is_name_byte c ≡ false → IsNameText s → has c s ≡ false
not_in c [] other h = refl
not_in c (b ∷ s) other h =
    let (here, rest) = and_parts (is_name_byte b) (list_all is_name_byte s) h in
    let differ : (b == c) ≡ false = grind (arith, nat_tests) in
    rw differ (not_in c s other rest)

not_escaped : (s : List ℕ) → IsNameText s → escaped false 0 s ≡ s
unfolding escaped needs_escape quotes_after
not_escaped [] h = refl
not_escaped (b ∷ s) h =
    let (here, rest) = and_parts (is_name_byte b) (list_all is_name_byte s) h in
    let no_quote : (b == 34) ≡ false = grind (arith, nat_tests) in
    let no_feed : (b == 10) ≡ false = grind (arith, nat_tests) in
    let no_slash : (b == 92) ≡ false = grind (arith, nat_tests) in
    let no_tab : (b == 9) ≡ false = grind (arith, nat_tests) in
    let seen : (nat_le 32 b && not (b == 127)) ≡ true = grind (arith, nat_tests) in
    rw (no_quote, no_feed, no_slash, no_tab, seen) (ap (λ (x : List ℕ). b ∷ x) (not_escaped s rest))

quoted_is : (s : List ℕ) → IsNameText s → string_text s ≡ quoted s
unfolding string_text encoding_of
quoted_is s h = rw (no_control s h, not_in 92 s refl h, not_in 34 s refl h, not_in 10 s refl h, not_escaped s h) refl

-- ---- values

names_break_no_lines : (names : List (List ℕ)) → breaks_lines false (items_of (map string names)) ≡ false
names_break_no_lines [] = refl
names_break_no_lines (a ∷ []) = refl
names_break_no_lines (a ∷ b ∷ names) = refl

later_names : (names : List (List ℕ)) → AllByRecursion IsNameText names
    → IsItemsText false false false (items_of (map string names)) (flat_map (λ n. codes ", " ++ quoted n) names ++ codes "]")
later_names [] h = refl
later_names (a ∷ names) h =
    let rest = flat_map (λ n. codes ", " ++ quoted n) names in (
      quoted a,
      rest ++ codes "]",
      append_assoc (codes ", " ++ quoted a) rest (codes "]")
          ∙ append_assoc (codes ", ") (quoted a) (rest ++ codes "]"),
      sym (quoted_is a h.0),
      later_names names h.1,
    )

items_text : (names : List (List ℕ)) → AllByRecursion IsNameText names
    → IsItemsText false false true (items_of (map string names)) (names_text names ++ codes "]")
items_text [] h = refl
items_text (a ∷ names) h =
    let rest = flat_map (λ n. codes ", " ++ quoted n) names in
    (quoted a, rest ++ codes "]", append_assoc (quoted a) rest (codes "]"), sym (quoted_is a h.0), later_names names h.1)

is_value_text : (w : Written) → CanStand w → IsValueText false (data_of w) (value_text w)
is_value_text (one_number n) h = (refl, fits_signed_from_abs w64 (pos n) (omega arith))
is_value_text (one_name name) h = sym (quoted_is name h)
is_value_text (several_names names) h =
    (names_text names ++ codes "]", refl, rw (names_break_no_lines names) (items_text names h))

-- ---- lines

bare_key : (field : Field) → dotted_text ([], name_of field) ≡ name_of field
unfolding key_text
bare_key fields.Version = refl
bare_key fields.Track = refl
bare_key fields.Gap = refl
bare_key fields.Hoists = refl
bare_key fields.Degree = refl
bare_key fields.MaxPeriod = refl
bare_key fields.Load = refl
bare_key fields.Unload = refl
bare_key fields.Tank = refl
bare_key fields.Stage = refl
bare_key fields.Name = refl
bare_key fields.At = refl
bare_key fields.Tanks = refl
bare_key fields.Min = refl
bare_key fields.Max = refl
bare_key fields.Lift = refl
bare_key fields.Lower = refl

pair_line : (started : Bool) (p : Pair) → CanStand p.1
    → IsLineText false started ([], name_of p.0) (key_value (data_of p.1)) (pair_text p)
pair_line started p h =
    (value_text p.1, ap (λ (key : List ℕ). key ++ (codes " = " ++ (value_text p.1 ++ codes "\n"))) (sym (bare_key p.0)), is_value_text p.1 h)

header_line : (field : Field) → IsLineText false true ([], name_of field) array_table (header_text field)
header_line field = ap (λ (key : List ℕ). codes "\n[[" ++ (key ++ codes "]]\n")) (sym (bare_key field))

pub pair_lines : (started : Bool) (pairs : List Pair) → AllStand pairs
    → IsLinesText false started (map pair_expression pairs) (flat_map pair_text pairs)
pair_lines started [] h = refl
pair_lines started (p ∷ pairs) h = (pair_text p, flat_map pair_text pairs, refl, pair_line started p h.0, pair_lines true pairs h.1)

pub table_lines : (field : Field) (pairs : List Pair) → AllStand pairs
    → IsLinesText false true (table_expressions field pairs) (header_text field ++ flat_map pair_text pairs)
table_lines field pairs h = (header_text field, flat_map pair_text pairs, refl, header_line field, pair_lines true pairs h)

-- tables one after another
pub lines_joined : {X : Type 0} (text : X → List ℕ) (expressions : X → List Expression) (xs : List X)
    → AllByRecursion (λ x. IsLinesText false true (expressions x) (text x)) xs
    → IsLinesText false true (flat_map expressions xs) (flat_map text xs)
lines_joined text expressions [] h = refl
lines_joined text expressions (x ∷ xs) h =
    IsLinesText-append false true (expressions x) (flat_map expressions xs) (text x) (flat_map text xs) h.0 (lines_joined text expressions xs h.1)

-- ---- what is printed

flat_items : (names : List (List ℕ))
    → (items_depth (items_of (map string names)) ≡ 0) × (items_have_valid_dates (items_of (map string names)) ≡ true)
flat_items [] = (refl, refl)
flat_items (a ∷ names) = let more = flat_items names in (rw (more.0) refl, more.1)

printed : (w : Written) → (depth (data_of w) ≤ 80) × (has_valid_dates (data_of w) ≡ true)
printed (one_number n) = (omega arith, refl)
printed (one_name name) = (omega arith, refl)
printed (several_names names) = let flat = flat_items names in (rw (flat.0) (omega arith), flat.1)

pub pairs_printed : (pairs : List Pair) → AllPrinted (map pair_expression pairs)
pairs_printed [] = tt
pairs_printed (p ∷ pairs) = let fine = printed p.1 in ((refl, fine.0, fine.1), pairs_printed pairs)

pub table_printed : (field : Field) (pairs : List Pair) → AllPrinted (table_expressions field pairs)
table_printed field pairs = (omega arith, pairs_printed pairs)

pub all_printed : (es fs : List Expression) → AllPrinted es → AllPrinted fs → AllPrinted (es ++ fs)
all_printed [] fs a b = b
all_printed (e ∷ es) fs a b = (a.0, all_printed es fs a.1 b)

pub printed_joined : {X : Type 0} (expressions : X → List Expression) (xs : List X)
    → ((x : X) → AllPrinted (expressions x)) → AllPrinted (flat_map expressions xs)
printed_joined expressions [] h = tt
printed_joined expressions (x ∷ xs) h = all_printed (expressions x) (flat_map expressions xs) (h x) (printed_joined expressions xs h)

-- ---- the text is ASCII

by_test : (bytes : List ℕ) → list_all (λ b. nat_lt b 128) bytes ≡ true → IsAscii bytes
by_test bytes h = IsAscii-from_all bytes (λ k d there. ltb-true (get_or bytes k d) 128 (AllPass-from_list_all (λ b. nat_lt b 128) bytes h k d there))

low_name_byte : (b : ℕ) → is_name_byte b ≡ true → b < 128
low_name_byte b h = grind (arith, nat_tests)

name_ascii : (name : List ℕ) → IsNameText name → IsAscii name
name_ascii name h = IsAscii-from_all name (λ k d there. low_name_byte (get_or name k d) (AllPass-from_list_all is_name_byte name h k d there))

key_ascii : (field : Field) → IsAscii (name_of field)
key_ascii fields.Version = by_test (name_of fields.Version) refl
key_ascii fields.Track = by_test (name_of fields.Track) refl
key_ascii fields.Gap = by_test (name_of fields.Gap) refl
key_ascii fields.Hoists = by_test (name_of fields.Hoists) refl
key_ascii fields.Degree = by_test (name_of fields.Degree) refl
key_ascii fields.MaxPeriod = by_test (name_of fields.MaxPeriod) refl
key_ascii fields.Load = by_test (name_of fields.Load) refl
key_ascii fields.Unload = by_test (name_of fields.Unload) refl
key_ascii fields.Tank = by_test (name_of fields.Tank) refl
key_ascii fields.Stage = by_test (name_of fields.Stage) refl
key_ascii fields.Name = by_test (name_of fields.Name) refl
key_ascii fields.At = by_test (name_of fields.At) refl
key_ascii fields.Tanks = by_test (name_of fields.Tanks) refl
key_ascii fields.Min = by_test (name_of fields.Min) refl
key_ascii fields.Max = by_test (name_of fields.Max) refl
key_ascii fields.Lift = by_test (name_of fields.Lift) refl
key_ascii fields.Lower = by_test (name_of fields.Lower) refl

quoted_ascii : (name : List ℕ) → IsNameText name → IsAscii (quoted name)
quoted_ascii name h =
    IsAscii-append (codes "\"") (name ++ codes "\"") (by_test (codes "\"") refl)
    (IsAscii-append name (codes "\"") (name_ascii name h) (by_test (codes "\"") refl))

later_ascii : (names : List (List ℕ)) → AllByRecursion IsNameText names
    → IsAscii (flat_map (λ n. codes ", " ++ quoted n) names)
later_ascii [] h = IsAscii-nil
later_ascii (a ∷ names) h =
    IsAscii-append (codes ", " ++ quoted a) (flat_map (λ n. codes ", " ++ quoted n) names)
    (IsAscii-append (codes ", ") (quoted a) (by_test (codes ", ") refl) (quoted_ascii a h.0)) (later_ascii names h.1)

names_ascii : (names : List (List ℕ)) → AllByRecursion IsNameText names → IsAscii (names_text names)
names_ascii [] h = IsAscii-nil
names_ascii (a ∷ names) h = IsAscii-append (quoted a) _ (quoted_ascii a h.0) (later_ascii names h.1)

value_ascii : (w : Written) → CanStand w → IsAscii (value_text w)
value_ascii (one_number n) h = IsAscii-decimal n (omega arith)
value_ascii (one_name name) h = quoted_ascii name h
value_ascii (several_names names) h =
    IsAscii-append (codes "[") (names_text names ++ codes "]")
    (by_test (codes "[") refl) (IsAscii-append (names_text names) (codes "]") (names_ascii names h)
    (by_test (codes "]") refl))

pair_ascii : (p : Pair) → CanStand p.1 → IsAscii (pair_text p)
pair_ascii p h =
    IsAscii-append (name_of p.0) _ (key_ascii p.0)
    (IsAscii-append (codes " = ") _ (by_test (codes " = ") refl) (IsAscii-append (value_text p.1) (codes "\n") (value_ascii p.1 h) (by_test (codes "\n") refl)))

pub pairs_ascii : (pairs : List Pair) → AllStand pairs → IsAscii (flat_map pair_text pairs)
pairs_ascii [] h = IsAscii-nil
pairs_ascii (p ∷ pairs) h = IsAscii-append (pair_text p) (flat_map pair_text pairs) (pair_ascii p h.0) (pairs_ascii pairs h.1)

pub table_ascii : (field : Field) (pairs : List Pair) → AllStand pairs
    → IsAscii (header_text field ++ flat_map pair_text pairs)
table_ascii field pairs h =
    IsAscii-append (header_text field) (flat_map pair_text pairs)
    (IsAscii-append (codes "\n[[") _ (by_test (codes "\n[[") refl) (IsAscii-append (name_of field) (codes "]]\n")
    (key_ascii field) (by_test (codes "]]\n") refl)))
    (pairs_ascii pairs h)

pub ascii_joined : {X : Type 0} (text : X → List ℕ) (xs : List X) → AllByRecursion (λ x. IsAscii (text x)) xs
    → IsAscii (flat_map text xs)
ascii_joined text [] h = IsAscii-nil
ascii_joined text (x ∷ xs) h = IsAscii-append (text x) (flat_map text xs) h.0 (ascii_joined text xs h.1)
