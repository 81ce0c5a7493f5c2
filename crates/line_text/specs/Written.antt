-- The text of a line file: each table as a list of keys with their values.
use Rattle.std.specs.Prelude.{◌≡◌, ℕ, ◌+◌, ◌==◌, List, [], ◌∷◌, ◌++◌, codes, decimal, length, get_or, map, flat_map, if◌then◌else◌, Option, Some, None}
use Rattle.std.specs.List.{range_with_len}
use Rattle.hoist_base.specs.declared.tank.Tank.{Tank}
use Rattle.hoist_base.specs.declared.stage.Stage.{Stage}
use Rattle.hoist_base.specs.LineData.{LineData, stage, tank, is_single}
use Rattle.hoist_base.specs.Valid.{IsLine}
use Rattle.line_text.specs.declared.fields.Field.{Field}
use Rattle.line_text.specs.declared.fields.Field.TheVariants as fields
use Rattle.line_text.specs.declared.why.LineRead.TheVariants.{Ready}
use Rattle.line_text.specs.Fields.{name_of}
use Rattle.line_text.specs.File.{bytes_read}

-- what stands at a key: a number, a name or several names
pub data Written : Type 0 where
  one_number : ℕ → Written
  one_name : List ℕ → Written
  several_names : List (List ℕ) → Written

abbrev pub Pair : Type 0
Pair = Field × Written

-- ---- the keys of each table, in their order

abbrev pub version_of : LineData → ℕ
version_of l = if is_single l then 1 else 2

-- of the root, but the tables of tanks and stages
abbrev pub root_pairs : LineData → List Pair
root_pairs l =
    (fields.Version, one_number (version_of l))
    ∷ (fields.Track, one_number l.track)
    ∷ (fields.Gap, one_number l.gap)
    ∷ (fields.Hoists, one_number l.hoists)
    ∷ (fields.Degree, one_number l.degree)
    ∷ (fields.MaxPeriod, one_number l.max_period)
    ∷ (fields.Load, one_number l.load)
    ∷ (fields.Unload, one_number l.unload)
    ∷ []

abbrev pub tank_pairs : Tank → List Pair
tank_pairs t = (fields.Name, one_name t.name) ∷ (fields.At, one_number t.at) ∷ []

abbrev pub tank_name : LineData → ℕ → List ℕ
tank_name l i = (tank l i).name

-- the only tank of a stage, and the tanks of a stage in a file of version 2
abbrev pub only_tank : LineData → Stage → Pair
only_tank l s = (fields.Tank, one_name (tank_name l (get_or s.tanks 0 0)))

abbrev pub all_tanks : LineData → Stage → Pair
all_tanks l s = (fields.Tanks, several_names (map (tank_name l) s.tanks))

-- the greatest dwell, only where there is one
abbrev pub greatest_pairs : Option ℕ → List Pair
greatest_pairs None = []
greatest_pairs (Some greatest) = (fields.Max, one_number greatest) ∷ []

abbrev pub window_pairs : Stage → List Pair
window_pairs s =
    (fields.Min, one_number s.min)
    ∷ (greatest_pairs s.max ++ ((fields.Lift, one_number s.lift) ∷ (fields.Lower, one_number s.lower) ∷ []))

-- of stage k of the line: the first has no window and no lower, the last no window and no lift
abbrev pub stage_pairs : LineData → ℕ → List Pair
stage_pairs l k =
    let s = stage l k in
    if k == 0 then only_tank l s ∷ (fields.Lift, one_number s.lift) ∷ []
    else if k + 1 == length l.stages then only_tank l s ∷ (fields.Lower, one_number s.lower) ∷ []
    else (if is_single l then only_tank l s else all_tanks l s) ∷ window_pairs s

-- ---- their text

abbrev pub quoted : List ℕ → List ℕ
quoted name = codes "\"" ++ (name ++ codes "\"")

-- names with a comma and a space between them
abbrev pub names_text : List (List ℕ) → List ℕ
names_text [] = []
names_text (name ∷ names) = quoted name ++ flat_map (λ n. codes ", " ++ quoted n) names

abbrev pub value_text : Written → List ℕ
value_text (one_number n) = decimal n
value_text (one_name name) = quoted name
value_text (several_names names) = codes "[" ++ (names_text names ++ codes "]")

-- a line `key = value`
abbrev pub pair_text : Pair → List ℕ
pair_text p = name_of p.0 ++ (codes " = " ++ (value_text p.1 ++ codes "\n"))

-- an empty line and the header of a table
abbrev pub header_text : Field → List ℕ
header_text field = codes "\n[[" ++ (name_of field ++ codes "]]\n")

abbrev pub tank_text : Tank → List ℕ
tank_text t = header_text fields.Tank ++ flat_map pair_text (tank_pairs t)

abbrev pub stage_text : LineData → ℕ → List ℕ
stage_text l k = header_text fields.Stage ++ flat_map pair_text (stage_pairs l k)

-- the one text of a line file: the root, each tank, each stage
unfoldable pub line_file_text : LineData → List ℕ
line_file_text l =
    flat_map pair_text (root_pairs l) ++ (flat_map tank_text l.tanks ++ flat_map (stage_text l) (range_with_len 0 (length l.stages)))

-- the text of a line is read as this line
abbrev pub WrittenLinesAreRead : Type 0
WrittenLinesAreRead = (l : LineData) → IsLine l → bytes_read (line_file_text l) ≡ Ready l
