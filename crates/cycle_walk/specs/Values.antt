-- Walk values: the greatest weight of a walk of at most m constraints that ends at a node.
use Rattle.std.specs.Prelude.{◌≡◌, ℕ, ◌≤◌, List, length, ℤ, pos, ◌≤ℤ◌}
use Rattle.longest_path.specs.System.{SystemData, Leads}
use Rattle.longest_path.specs.Rounds.{walk_weight, value_from, AreRows}

-- z is the greatest weight of a walk of at most m constraints that ends at node i
pub record IsWalkValue (s : SystemData) (wt : ℕ → ℤ) (m i : ℕ) (z : ℤ) : Type 0 where
  pub some : (from : ℕ) × (ks : List ℕ) × (length ks ≤ m) × Leads s from ks i × (walk_weight wt ks ≡ z)
  pub most : (from : ℕ) (ks : List ℕ) → length ks ≤ m → Leads s from ks i → walk_weight wt ks ≤ℤ z

-- the first row: a walk may begin anywhere
abbrev pub zeros : ℕ → ℤ
zeros i = pos 0

-- the walk values: 0 at first, then round by round
abbrev pub value : SystemData → (ℕ → ℤ) → ℕ → ℕ → ℤ
value s wt = value_from s wt zeros

-- the rows up to row m of a table are walk values
abbrev pub AreValues : SystemData → ℕ → ℕ → List ℤ → Type 0
AreValues s period m rows = AreRows s period zeros m rows
