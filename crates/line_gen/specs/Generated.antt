-- The line of a seed: a row of baths between the load and the unload, whose numbers are drawn.
use Rattle.std.specs.Prelude.{◌≡◌, ℕ, zero, suc, ◌+◌, ◌-◌, ◌*◌, ◌/◌, ◌%◌, ◌<◌, ◌≤◌, ◌==◌, ◌&&◌, Bool, if◌then◌else◌, nat_lt, Option, Some, None, List, [], ◌∷◌, ◌++◌, codes, decimal, length, get_or, map}
use Rattle.std.specs.List.{range_with_len}
use Rattle.hoist_base.specs.declared.tank.Tank.{Tank}
use Rattle.hoist_base.specs.declared.stage.Stage.{Stage}
use Rattle.hoist_base.specs.LineData.{LineData}

-- the number x after so many draws
unfoldable pub number_after : ℕ → ℕ → ℕ
number_after seed zero = 1 + seed % 2147483646
number_after seed (suc draws) = 48271 * number_after seed draws % 2147483647

-- what the draw of this count, from 1, gives below a limit
abbrev pub draw : ℕ → ℕ → ℕ → ℕ
draw seed count limit = number_after seed count % limit

-- what is drawn for a line: how many baths and hoists it has, whether the last bath stands in the tank of the first,
-- and a number z below 80 for each bath, which gives its window
pub record ChoiceData : Type 0 where
  pub baths : ℕ
  pub hoists : ℕ
  pub again : Bool
  pub z : List ℕ

abbrev pub baths_of : ℕ → ℕ
baths_of seed = 8 + draw seed 1 5

abbrev pub choices : ℕ → ChoiceData
choices seed = record {
  baths = baths_of seed;
  hoists = 1 + draw seed 2 2;
  again = draw seed 3 2 == 1;
  z = map (λ count. draw seed count 80) (range_with_len 4 (baths_of seed));
}

-- every seed's choices are such
pub record AreChoices (c : ChoiceData) : Type 0 where
  pub baths : (8 ≤ c.baths) × (c.baths ≤ 12)
  pub hoists : (1 ≤ c.hoists) × (c.hoists ≤ 2)
  pub count : length c.z ≡ c.baths
  pub small : (i : ℕ) → get_or c.z i 0 < 80

-- stages 1 to `baths` are baths, between the load and the unload
abbrev pub is_bath : ℕ → ℕ → Bool
is_bath baths k = nat_lt 0 k && nat_lt k (baths + 1)

-- the load is tank 0, the unload the last one, and those between have the names t1, t2, ..
abbrev pub tank_name : ℕ → ℕ → List ℕ
tank_name baths i = if is_bath baths i then codes "t" ++ decimal i else (if i == 0 then codes "load" else codes "out")

-- tanks are 2 apart
abbrev pub tank_of : ℕ → ℕ → Tank
tank_of baths i = record { name = tank_name baths i; at = 2 * i }

-- stage k uses tank k, but for the last bath, where the first tank may stand again
abbrev pub tank_at : ℕ → Bool → ℕ → ℕ
tank_at baths again k = if again && (k == baths) then 1 else k

-- the window of a bath
abbrev pub least : ℕ → ℕ
least z = 5 + z % 20

abbrev pub greatest : ℕ → Option ℕ
greatest z = if z / 20 == 0 then None else Some (least z + 10 * (z / 20))

-- the number of the bath of stage k
abbrev pub z_of : ChoiceData → ℕ → ℕ
z_of c k = get_or c.z (k - 1) 0

abbrev pub stage_of : ChoiceData → ℕ → Stage
stage_of c k = record {
  tanks = tank_at c.baths c.again k ∷ [];
  min = if is_bath c.baths k then least (z_of c k) else 0;
  max = if is_bath c.baths k then greatest (z_of c k) else None;
  lift = if k == c.baths + 1 then 0 else 2;
  lower = if k == 0 then 0 else 2;
}

-- the line of some choices
abbrev pub line_with : ChoiceData → LineData
line_with c = record {
  track = 2 * (c.baths + 1);
  gap = 2;
  hoists = c.hoists;
  degree = 1;
  max_period = 2000;
  load = 5;
  unload = 5;
  tanks = map (tank_of c.baths) (range_with_len 0 (c.baths + 2));
  stages = map (stage_of c) (range_with_len 0 (c.baths + 2));
}

abbrev pub generated : ℕ → LineData
generated seed = line_with (choices seed)
