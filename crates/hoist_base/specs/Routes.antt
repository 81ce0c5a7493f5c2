-- Routes that are written out as lists.
use Rattle.std.specs.Prelude.{◌≡◌, ℕ, List, length, get_or}
use Rattle.hoist_base.specs.LineData.{LineData, visit_number, visit_count, IsVisit, Serves}

-- the tank of carrier c at stage k
abbrev pub route_tank : LineData → List ℕ → ℕ → ℕ → ℕ
route_tank l route c k = get_or route (visit_number l c k) 0

-- a tank of its stage for every visit
pub record IsRoute (l : LineData) (route : List ℕ) : Type 0 where
  pub count : length route ≡ visit_count l
  pub serves : (c k : ℕ) → IsVisit l c k → Serves l (route_tank l route c k) k
