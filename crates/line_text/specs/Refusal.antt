-- The words for what is wrong with a line file.
use Rattle.std.specs.Prelude.{ℕ, List, [], ◌++◌, ◌&&◌, codes, decimal, map, if◌then◌else◌, nat_le}
use Rattle.std.specs.Fmt.{signed_decimal}
use Rattle.line_text.specs.declared.why.Place.{Place}
use Rattle.line_text.specs.declared.why.Place.TheVariants.{Root, Tank, Stage}
use Rattle.line_text.specs.declared.why.Key.{Key}
use Rattle.line_text.specs.declared.why.Why.{Why}
use Rattle.line_text.specs.declared.why.Why.TheVariants.{NotToml, Missing, Unknown, WrongKind, Range, BadName, TwiceNamed, SamePlace, NoTank, TwiceTank, SameTank, EmptyWindow, NoRoom}

-- a tank and a stage by number
abbrev pub tank_text : ℕ → List ℕ
tank_text i = codes "tank[" ++ (decimal i ++ codes "]")

abbrev pub stage_text : ℕ → List ℕ
stage_text k = codes "stage[" ++ (decimal k ++ codes "]")

-- what stands before a key
abbrev pub place_text : Place → List ℕ
place_text Root = []
place_text (Tank i) = tank_text i ++ codes "."
place_text (Stage k) = stage_text k ++ codes "."

-- a byte that can be seen, else `?`
abbrev pub shown : ℕ → ℕ
shown byte = if nat_le 33 byte && nat_le byte 126 then byte else 63

abbrev pub key_text : Key → List ℕ
key_text key = place_text key.table ++ map shown key.name

abbrev pub refusal_of : Why → List ℕ
refusal_of NotToml = codes "not toml"
refusal_of (Missing key) = codes "missing " ++ key_text key
refusal_of (Unknown key) = codes "unknown " ++ key_text key
refusal_of (WrongKind key) = codes "wrong kind " ++ key_text key
refusal_of (Range key value) = codes "range " ++ (key_text key ++ (codes " " ++ signed_decimal value))
refusal_of (BadName tank) = codes "bad name " ++ tank_text tank
refusal_of (TwiceNamed a b) = codes "twice named " ++ (tank_text a ++ (codes " " ++ tank_text b))
refusal_of (SamePlace a b) = codes "same place " ++ (tank_text a ++ (codes " " ++ tank_text b))
refusal_of (NoTank stage) = codes "no tank " ++ stage_text stage
refusal_of (TwiceTank stage) = codes "twice tank " ++ stage_text stage
refusal_of (SameTank stage) = codes "same tank " ++ stage_text stage
refusal_of (EmptyWindow stage) = codes "empty window " ++ stage_text stage
refusal_of (NoRoom need track) = codes "no room " ++ (decimal need ++ (codes " " ++ decimal track))
