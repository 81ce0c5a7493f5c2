-- The rules of one table of a line file, each with the refusal of the first key that breaks it.
use Rattle.std.specs.Prelude.{ℕ, ℤ, pos, negsuc, List, Bool, true, false, not, ◌&&◌, Option, is_some, is_none, option_map, option_and_then, nat_le, length, filter}
use Rattle.std.specs.List.{list_all, list_any, reduce}
use Rattle.std.specs.Option.{option_or, option_map_or}
use Rattle.std.specs.Ordering.{nat_cmp, match_ordering}
use Rattle.std.specs.Cmp.Lexicographic.{slice_cmp}
use Rattle.std.specs.Str.{bytes_eq}
use Rattle.toml.specs.Data.{Data, as_integer, as_str, as_table}
use Rattle.hoist_base.specs.Firsts.{first_some, given}
use Rattle.line_text.specs.declared.fields.Kind.{Kind}
use Rattle.line_text.specs.declared.fields.Kind.TheVariants.{Integer, Text, Tables, Texts}
use Rattle.line_text.specs.declared.fields.Rule.{Rule}
use Rattle.line_text.specs.declared.why.Place.{Place}
use Rattle.line_text.specs.declared.why.Key.{Key}
use Rattle.line_text.specs.declared.why.Why.{Why}
use Rattle.line_text.specs.declared.why.Why.TheVariants.{Missing, Unknown, WrongKind, Range}
use Rattle.line_text.specs.Fields.{name_of}
use Rattle.line_text.specs.Values.{elements, keys_of, value_at}

abbrev pub key_at : Place → List ℕ → Key
key_at place name = record { table = place; name = name }

-- ---- the key is required and absent

abbrev pub missing_why : Place → Data → Rule → Option Why
missing_why place t rule =
    given (rule.required && is_none (value_at t rule.field)) (Missing (key_at place (name_of rule.field)))

-- ---- a key of the table isn't in the list

abbrev pub is_listed : List Rule → List ℕ → Bool
is_listed rules key = list_any (λ rule. bytes_eq key (name_of rule.field)) rules

abbrev pub unknown_keys : List Rule → Data → List (List ℕ)
unknown_keys rules t = filter (λ key. not (is_listed rules key)) (keys_of t)

-- the first of some texts in the order of their bytes
abbrev pub earlier : List ℕ → List ℕ → List ℕ
earlier a b = match_ordering (slice_cmp nat_cmp a b) a a b

abbrev pub first_text : List (List ℕ) → Option (List ℕ)
first_text texts = reduce earlier texts

abbrev pub unknown_why : Place → Data → List Rule → Option Why
unknown_why place t rules = option_map (λ key. Unknown (key_at place key)) (first_text (unknown_keys rules t))

-- ---- the value at the key is of another kind

abbrev pub is_table : Data → Bool
is_table d = is_some (as_table d)

abbrev pub is_text : Data → Bool
is_text d = is_some (as_str d)

abbrev pub is_kind : Kind → Data → Bool
is_kind (Integer low high) d = is_some (as_integer d)
is_kind Text d = is_text d
is_kind (Tables low high) d = option_map_or (list_all is_table) (elements d) false
is_kind (Texts low high) d = option_map_or (list_all is_text) (elements d) false

abbrev pub kind_why : Place → Data → Rule → Option Why
kind_why place t rule =
    given (option_map_or (λ d. not (is_kind rule.kind d)) (value_at t rule.field) false) (WrongKind (key_at place (name_of rule.field)))

-- ---- the integer at the key, or the length of the array there, is out of range

abbrev pub is_within : ℕ → ℕ → ℤ → Bool
is_within low high (pos n) = nat_le low n && nat_le n high
is_within low high (negsuc n) = false

-- what has to be in range: an integer, or the length of an array
abbrev pub extent : Data → Option ℤ
extent d = option_or (as_integer d) (option_map (λ items. pos (length items)) (elements d))

abbrev pub is_in_range : Kind → ℤ → Bool
is_in_range (Integer low high) z = is_within low high z
is_in_range Text z = true
is_in_range (Tables low high) z = is_within low high z
is_in_range (Texts low high) z = is_within low high z

abbrev pub range_why : Place → Data → Rule → Option Why
range_why place t rule =
    option_and_then (λ z. given (not (is_in_range rule.kind z)) (Range (key_at place (name_of rule.field)) z))
    (option_and_then extent (value_at t rule.field))

-- ---- the four rules of a table, each over all its keys before the next

abbrev pub table_why : Place → List Rule → Data → Option Why
table_why place rules t =
    option_or (first_some (missing_why place t) rules)
    (option_or (unknown_why place t rules)
    (option_or (first_some (kind_why place t) rules)
    (first_some (range_why place t) rules)))
