-- What stands at the keys of a table. A value that is no table has no keys.
use Rattle.std.specs.Prelude.{ℕ, ◌^◌, ℤ, pos, negsuc, List, [], ◌∷◌, Option, option_map, option_and_then, unwrap_or, if◌then◌else◌, nat_lt}
use Rattle.std.specs.Option.{option_map_or}
use Rattle.toml.specs.Data.{Data, Items, no_items, item, Members, no_members, member, get, as_integer, as_str, as_array, as_table}
use Rattle.line_text.specs.declared.fields.Field.{Field}
use Rattle.line_text.specs.Fields.{name_of}

-- the items of an array, as a list
abbrev pub list_of : Items → List Data
list_of no_items = []
list_of (item d ds) = d ∷ list_of ds

-- the items of a value that is an array
abbrev pub elements : Data → Option (List Data)
elements d = option_map list_of (as_array d)

-- the keys of a table; toml keeps them in the order of their bytes
abbrev pub member_keys : Members → List (List ℕ)
member_keys no_members = []
member_keys (member key d rest) = key ∷ member_keys rest

abbrev pub keys_of : Data → List (List ℕ)
keys_of t = option_map_or member_keys (as_table t) []

-- the value at a key
abbrev pub value_at : Data → Field → Option Data
value_at t field = get (name_of field) t

-- the integer at a key
abbrev pub integer_at : Data → Field → Option ℤ
integer_at t field = option_and_then as_integer (value_at t field)

-- a number of 32 bits; a line file has no others
abbrev pub natural : ℤ → ℕ
natural (pos n) = if nat_lt n (2 ^ 32) then n else 0
natural (negsuc n) = 0

-- the number at a key that may be absent, and one that counts as 0 then
abbrev pub number_if : Data → Field → Option ℕ
number_if t field = option_map natural (integer_at t field)

abbrev pub number_at : Data → Field → ℕ
number_at t field = unwrap_or (number_if t field) 0

-- the string at a key
abbrev pub text_if : Data → Field → Option (List ℕ)
text_if t field = option_and_then as_str (value_at t field)

abbrev pub text_at : Data → Field → List ℕ
text_at t field = unwrap_or (text_if t field) []

-- the items of the array at a key
abbrev pub items_at : Data → Field → List Data
items_at t field = unwrap_or (option_and_then elements (value_at t field)) []
