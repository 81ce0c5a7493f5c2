-- Tanks numbered by their names.
use Rattle.std.specs.Prelude.{◌≡◌, ℕ, List, position}
use Rattle.std.specs.Str.{bytes_eq}
use Rattle.std.specs.HashMap.{HashMap, get_by_text}
use Rattle.std.specs.Prelude.{String}
use Rattle.hoist_base.specs.declared.tank.Tank.{Tank}

-- the map has each name that a tank has, at the number of the first such tank
abbrev pub IsNumbering : {Y S : Type 0} → HashMap (String Y) ℕ S → List Tank → Type 0
IsNumbering numbers tanks = (name : List ℕ) → get_by_text numbers name ≡ position (λ (t : Tank). bytes_eq name t.name) tanks
