-- Constraints between near nodes at one period, in rows of one number a node; and the packed constraints of a system.
use Rattle.std.specs.Prelude.{◌≡◌, ℕ, suc, ◌-◌, ◌≤◌, ◌<◌, ◌⊎◌, List, length, ℤ, pos, negsuc, ◌+ℤ◌, ◌≤ℤ◌, Bool, true, false, slice_set, unsigned_abs}
use Rattle.std.specs.Int.{int_max}
use Rattle.longest_path.specs.declared.room.Near.{Near}
use Rattle.longest_path.specs.declared.room.Step.{Step}
use Rattle.longest_path.specs.System.{SystemData, arc, weight}
use Rattle.longest_path.specs.Rounds.{number}
use Rattle.longest_path.specs.Steps.{step, step_of, IsRound}

-- what stands where no constraint leads: less than all that constraints bring
abbrev pub none : ℤ
none = negsuc 99999999999999999

abbrev pub HasNodes : ℕ → Near → Type 0
HasNodes nodes near =
    (length near.stay.items ≡ nodes) × (length near.rise.items ≡ nodes) × (length near.fall.items ≡ nodes)

abbrev pub AreSmall : Near → Type 0
AreSmall near =
    (i : ℕ) → (unsigned_abs (number near.stay.items i) ≤ 100000000000000000)
    × (unsigned_abs (number near.rise.items i) ≤ 100000000000000000)
    × (unsigned_abs (number near.fall.items i) ≤ 100000000000000000)

-- z is what one of the near constraints brings node i from a row: from itself, from the node before it, or from the
-- node behind it
abbrev pub IsNearOffer : ℕ → Near → (ℕ → ℤ) → ℕ → ℤ → Type 0
IsNearOffer nodes near row i z =
    (row i +ℤ number near.stay.items i ≡ z)
    ⊎ (((0 < i) × (row (i - 1) +ℤ number near.rise.items i ≡ z))
    ⊎ ((suc i < nodes) × (row (suc i) +ℤ number near.fall.items i ≡ z)))

-- z is the greatest of these
pub record IsNearest (nodes : ℕ) (near : Near) (row : ℕ → ℤ) (i : ℕ) (z : ℤ) : Type 0 where
  pub some : IsNearOffer nodes near row i z
  pub most : (y : ℤ) → IsNearOffer nodes near row i y → y ≤ℤ z

-- z is the greatest of what the near constraints and the first n steps bring node i from a row
abbrev pub IsMade : ℕ → Near → List Step → ℕ → (ℕ → ℤ) → ℕ → ℤ → Type 0
IsMade nodes near steps n row i z =
    (base : ℤ) × IsNearest nodes near row i base × IsRound steps n row i base z

-- one of the first m constraints leads from a to b and asks z at the period
abbrev pub IsWeight : SystemData → ℕ → ℕ → ℕ → ℕ → ℤ → Type 0
IsWeight s period m a b z =
    (k : ℕ) × (k < m) × ((arc s k).from ≡ a) × ((arc s k).to ≡ b) × (weight (arc s k) period ≡ z)

-- constraint k is among the packed ones, or is no stricter than one of them
abbrev pub IsTaken : SystemData → ℕ → ℕ → Near → List Step → ℕ → Type 0
IsTaken s period n near steps k =
    let a = arc s k in
    ((a.from ≡ a.to) × (weight a period ≤ℤ number near.stay.items a.to))
    ⊎ (((suc a.from ≡ a.to) × (weight a period ≤ℤ number near.rise.items a.to))
    ⊎ (((a.from ≡ suc a.to) × (weight a period ≤ℤ number near.fall.items a.to))
    ⊎ ((p : ℕ) × (p < n) × (step steps p ≡ step_of s period k))))

-- the near weights and the first n steps are the first m constraints of a system, and no others
pub record IsPacked (s : SystemData) (period m n : ℕ) (near : Near) (steps : List Step) : Type 0 where
  pub few : n ≤ m
  pub room : length steps ≡ length s.arcs
  pub nodes : HasNodes s.nodes near
  pub stays : (i : ℕ) → i < s.nodes → pos 0 ≤ℤ number near.stay.items i
  pub some_stay : (i : ℕ) → i < s.nodes
      → (number near.stay.items i ≡ pos 0) ⊎ IsWeight s period m i i (number near.stay.items i)
  pub some_rise : (i : ℕ) → i < s.nodes
      → (number near.rise.items i ≡ none) ⊎ IsWeight s period m (i - 1) i (number near.rise.items i)
  pub some_fall : (i : ℕ) → i < s.nodes
      → (number near.fall.items i ≡ none) ⊎ IsWeight s period m (suc i) i (number near.fall.items i)
  pub some : (p : ℕ) → p < n → (k : ℕ) × (k < m) × (step steps p ≡ step_of s period k)
  pub all : (k : ℕ) → k < m → IsTaken s period n near steps k

-- ---- packing
-- a row with a number raised to a weight
abbrev pub raised_to : List ℤ → ℕ → ℤ → List ℤ
raised_to row i z = slice_set row i (int_max (number row i) z)

-- what comes of near weights by a constraint, and whether it leads between near nodes
abbrev pub Takes : ℕ → ℕ → ℤ → Bool → Near → Near → Type 0
Takes from to z taken old new =
    ((from ≡ to) × (taken ≡ true) × (new.stay.items ≡ raised_to old.stay.items to z) × (new.rise ≡ old.rise) × (new.fall ≡ old.fall))
    ⊎ (((suc from ≡ to) × (taken ≡ true) × (new.stay ≡ old.stay) × (new.rise.items ≡ raised_to old.rise.items to z) × (new.fall ≡ old.fall))
    ⊎ (((from ≡ suc to) × (taken ≡ true) × (new.stay ≡ old.stay) × (new.rise ≡ old.rise) × (new.fall.items ≡ raised_to old.fall.items to z))
    ⊎ ((taken ≡ false) × (new ≡ old))))

-- no constraint at all
abbrev pub IsClear : ℕ → Near → Type 0
IsClear nodes near =
    (i : ℕ) → i < nodes → (number near.stay.items i ≡ pos 0) × (number near.rise.items i ≡ none) × (number near.fall.items i ≡ none)
