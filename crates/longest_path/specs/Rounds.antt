-- Rounds of relaxation: the greatest weight of a walk of at most m constraints, over a first row of numbers.
use Rattle.std.specs.Prelude.{◌≡◌, ℕ, zero, suc, ◌+◌, ◌*◌, ◌≤◌, ◌<◌, ◌==◌, cond, List, [], ◌∷◌, length, get_or, ℤ, pos, ◌+ℤ◌, ◌≤ℤ◌, unsigned_abs}
use Rattle.std.specs.Int.{int_max}
use Rattle.longest_path.specs.System.{SystemData, arc, weight, Leads}

-- the weights of the constraints at a period, by their numbers
abbrev pub weights_at : SystemData → ℕ → ℕ → ℤ
weights_at s period k = weight (arc s k) period

-- the weight of a walk
abbrev pub walk_weight : (ℕ → ℤ) → List ℕ → ℤ
walk_weight wt [] = pos 0
walk_weight wt (k ∷ ks) = walk_weight wt ks +ℤ wt k

-- z is the greatest sum of the first number of a node and the weight of a walk of at most m constraints from there to
-- node i
pub record IsValueFrom (s : SystemData) (wt first : ℕ → ℤ) (m i : ℕ) (z : ℤ) : Type 0 where
  pub some : (from : ℕ) × (ks : List ℕ) × (length ks ≤ m) × Leads s from ks i × (first from +ℤ walk_weight wt ks ≡ z)
  pub most : (from : ℕ) (ks : List ℕ) → length ks ≤ m → Leads s from ks i → (first from +ℤ walk_weight wt ks) ≤ℤ z

-- what node i has in a row, or the greatest that the first n constraints bring it from that row
abbrev pub brought : SystemData → (ℕ → ℤ) → (ℕ → ℤ) → ℕ → ℕ → ℤ
brought s wt row i zero = row i
brought s wt row i (suc n) =
    cond ((arc s n).to == i) (int_max (brought s wt row i n) (row (arc s n).from +ℤ wt n)) (brought s wt row i n)

-- the row after m rounds
abbrev pub value_from : SystemData → (ℕ → ℤ) → (ℕ → ℤ) → ℕ → ℕ → ℤ
value_from s wt first zero i = first i
value_from s wt first (suc m) i = brought s wt (value_from s wt first m) i (length s.arcs)

-- ---- rows in memory
abbrev pub number : List ℤ → ℕ → ℤ
number xs i = get_or xs i (pos 0)

-- the number of node i in row r of a table with rows of n
abbrev pub cell : ℕ → List ℤ → ℕ → ℕ → ℤ
cell n rows r i = get_or rows (r * n + i) (pos 0)

-- a table with the rows from 0 to the number of nodes
abbrev pub IsTable : SystemData → List ℤ → Type 0
IsTable s rows = length rows ≡ (s.nodes + 1) * s.nodes

-- row 0 of a table is not too large
abbrev pub BeginsSmall : SystemData → List ℤ → Type 0
BeginsSmall s rows = (i : ℕ) → i < s.nodes → unsigned_abs (cell s.nodes rows 0 i) ≤ 10000000000000000

-- the rows up to row m are those after so many rounds
pub record AreRows (s : SystemData) (period : ℕ) (first : ℕ → ℤ) (m : ℕ) (rows : List ℤ) : Type 0 where
  pub table : IsTable s rows
  pub is : (r i : ℕ) → r ≤ m → i < s.nodes → cell s.nodes rows r i ≡ value_from s (weights_at s period) first r i
