-- Line files: what their tables say, the first thing that is wrong with one, and what reading gives.
use Rattle.std.specs.Prelude.{◌≡◌, ◌↔◌, ℕ, List, [], ◌∷◌, length, map, get_or, Option, Some, None, IsUtf8, if◌then◌else◌}
use Rattle.std.specs.List.{filter_map, position_or_len}
use Rattle.std.specs.Option.{option_or, option_map_or}
use Rattle.std.specs.Str.{bytes_eq, is_utf8}
use Rattle.toml.specs.Data.{Data, table, Members, no_members, as_str}
use Rattle.toml.specs.Parse.{parse_document}
use Rattle.hoist_base.specs.declared.tank.Tank.{Tank}
use Rattle.hoist_base.specs.declared.stage.Stage.{Stage}
use Rattle.hoist_base.specs.Firsts.{first_some, numbers}
use Rattle.hoist_base.specs.LineData.{LineData}
use Rattle.line_text.specs.declared.fields.Field.TheVariants as fields
use Rattle.line_text.specs.declared.why.Place.TheVariants as places
use Rattle.line_text.specs.declared.why.Why.{Why}
use Rattle.line_text.specs.declared.why.Why.TheVariants.{NotToml}
use Rattle.line_text.specs.declared.why.LineRead.{LineRead}
use Rattle.line_text.specs.declared.why.LineRead.TheVariants.{Ready, Refused}
use Rattle.line_text.specs.Fields.{root_rules, tank_rules, stage_rules}
use Rattle.line_text.specs.Values.{number_at, number_if, text_at, text_if, items_at}
use Rattle.line_text.specs.Tables.{table_why}
use Rattle.line_text.specs.Flaws.{parts_why}

-- ---- what the tables say

abbrev pub no_value : Data
no_value = table no_members

abbrev pub tank_tables : Data → List Data
tank_tables root = items_at root fields.Tank

abbrev pub stage_tables : Data → List Data
stage_tables root = items_at root fields.Stage

abbrev pub tank_of : Data → Tank
tank_of t = record { name = text_at t fields.Name; at = number_at t fields.At }

-- the number of the first tank with this name; where there is none, a number past the last
abbrev pub number_of : List Tank → List ℕ → ℕ
number_of tanks name = position_or_len (λ (t : Tank). bytes_eq name t.name) tanks

-- the names that a stage gives: that of its one tank, or those of its tanks
abbrev pub stage_names : Data → List (List ℕ)
stage_names t = option_map_or (λ name. name ∷ []) (text_if t fields.Tank) (filter_map as_str (items_at t fields.Tanks))

abbrev pub stage_of : List Tank → Data → Stage
stage_of tanks t = record {
  tanks = map (number_of tanks) (stage_names t);
  min = number_at t fields.Min;
  max = number_if t fields.Max;
  lift = number_at t fields.Lift;
  lower = number_at t fields.Lower;
}

-- the line that a file describes; what is absent counts as 0
abbrev pub line_of : Data → LineData
line_of root =
    let tanks = map tank_of (tank_tables root) in
    record {
      track = number_at root fields.Track;
      gap = number_at root fields.Gap;
      hoists = number_at root fields.Hoists;
      degree = number_at root fields.Degree;
      max_period = number_at root fields.MaxPeriod;
      load = number_at root fields.Load;
      unload = number_at root fields.Unload;
      tanks = tanks;
      stages = map (stage_of tanks) (stage_tables root);
    }

-- ---- what is wrong with it: the tables one by one, then the parts of the line

abbrev pub root_why : Data → Option Why
root_why root = table_why places.Root root_rules root

-- of tank i, on a track of this length
abbrev pub tank_why : ℕ → List Data → ℕ → Option Why
tank_why track tanks i = table_why (places.Tank i) (tank_rules track) (get_or tanks i no_value)

-- of stage k, in a file of this version
abbrev pub stage_why : ℕ → List Data → ℕ → Option Why
stage_why version stages k = table_why (places.Stage k) (stage_rules version (length stages) k) (get_or stages k no_value)

abbrev pub tanks_why : Data → Option Why
tanks_why root = first_some (tank_why (number_at root fields.Track) (tank_tables root)) (numbers (length (tank_tables root)))

abbrev pub stages_why : Data → Option Why
stages_why root = first_some (stage_why (number_at root fields.Version) (stage_tables root)) (numbers (length (stage_tables root)))

abbrev pub tables_why : Data → Option Why
tables_why root = option_or (root_why root) (option_or (tanks_why root) (stages_why root))

abbrev pub why_of : Data → Option Why
why_of root = option_or (tables_why root) (parts_why (line_of root))

-- ---- what reading bytes gives

-- the bytes are a TOML document with this table
abbrev pub IsDocument : List ℕ → Members → Type 0
IsDocument bytes members = IsUtf8 bytes × (parse_document bytes ≡ Some members)

abbrev pub ready_unless : Option Why → LineData → LineRead
ready_unless None l = Ready l
ready_unless (Some why) l = Refused why

-- the line of a table with nothing wrong, else what is wrong first
abbrev pub table_read : Data → LineRead
table_read root = ready_unless (why_of root) (line_of root)

abbrev pub document_of : List ℕ → Option Members
document_of bytes = if is_utf8 bytes then parse_document bytes else None

-- what any bytes give
unfoldable pub bytes_read : List ℕ → LineRead
bytes_read bytes = option_map_or (λ members. table_read (table members)) (document_of bytes) (Refused NotToml)

-- the bytes are a file of this line: a document with nothing wrong that describes it
abbrev pub IsLineFile : List ℕ → LineData → Type 0
IsLineFile bytes l = (members : Members) × IsDocument bytes members × (why_of (table members) ≡ None) × (l ≡ line_of (table members))

-- reading gives a line exactly where the bytes are a file of it
abbrev pub LineFilesAreRead : Type 0
LineFilesAreRead = (bytes : List ℕ) (l : LineData) → (bytes_read bytes ≡ Ready l) ↔ IsLineFile bytes l
