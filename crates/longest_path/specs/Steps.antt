-- Constraints as a round takes them, with their weights at one period; and what rounds and passes make of a row.
use Rattle.std.specs.Prelude.{◌≡◌, ℕ, suc, ◌-◌, ◌≤◌, ◌<◌, ◌⊎◌, List, get_or, ℤ, pos, ◌+ℤ◌, ◌≤ℤ◌, unsigned_abs}
use Rattle.longest_path.specs.declared.room.Step.{Step}
use Rattle.longest_path.specs.System.{SystemData, arc, weight, Solves}
use Rattle.longest_path.specs.Rounds.{number, weights_at, value_from}

abbrev pub step : List Step → ℕ → Step
step steps p = get_or steps p (record { from = 0; to = 0; weight = pos 0 })

-- constraint k as a step
abbrev pub step_of : SystemData → ℕ → ℕ → Step
step_of s period k = record { from = (arc s k).from; to = (arc s k).to; weight = weight (arc s k) period }

-- the first n steps lead between so many nodes, and their weights are small
abbrev pub FitNodes : ℕ → ℕ → List Step → Type 0
FitNodes nodes n steps =
    (p : ℕ) → p < n → ((step steps p).from < nodes) × ((step steps p).to < nodes) × (unsigned_abs (step steps p).weight ≤ 30000000000000)

-- z is the greatest of a number and what the first n steps bring node i from a row
pub record IsRound (steps : List Step) (n : ℕ) (row : ℕ → ℤ) (i : ℕ) (base z : ℤ) : Type 0 where
  pub keeps : base ≤ℤ z
  pub brings : (p : ℕ) → p < n → (step steps p).to ≡ i → (row (step steps p).from +ℤ (step steps p).weight) ≤ℤ z
  pub some : (z ≡ base) ⊎ ((p : ℕ) × (p < n) × ((step steps p).to ≡ i) × (row (step steps p).from +ℤ (step steps p).weight ≡ z))

-- a row raised in place by the first m constraints of a system: no less than it was and than these bring it, and below
-- all solutions that the row was below
pub record IsRaised (s : SystemData) (period m : ℕ) (old new : ℕ → ℤ) : Type 0 where
  pub keeps : (i : ℕ) → i < s.nodes → old i ≤ℤ new i
  pub brings : (k : ℕ) → k < m → (old (arc s k).from +ℤ weights_at s period k) ≤ℤ new (arc s k).to
  pub most : (t : ℕ → ℤ) → Solves s period t → ((i : ℕ) → i < s.nodes → old i ≤ℤ t i) → (i : ℕ) → i < s.nodes
      → new i ≤ℤ t i

-- a row holds the numbers after so many rounds as there are nodes but one, and a further round changes nothing
pub record IsSettled (s : SystemData) (period : ℕ) (first : ℕ → ℤ) (row : List ℤ) : Type 0 where
  pub is : (i : ℕ) → i < s.nodes → number row i ≡ value_from s (weights_at s period) first (s.nodes - 1) i
  pub still : (i : ℕ) → i < s.nodes
      → value_from s (weights_at s period) first (suc (s.nodes - 1)) i ≡ value_from s (weights_at s period) first (s.nodes - 1) i
