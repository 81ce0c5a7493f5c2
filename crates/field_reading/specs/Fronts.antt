-- How far bytes go on as a text, where each value that fits has one.
use Rattle.std.specs.Prelude.{◌≡◌, ℕ, ◌<◌, ◌≤◌, List, ◌++◌, length, take}

-- the text of some value that fits begins so
abbrev pub GoesOn : {A : Type 0} → (A → Type 0) → (A → List ℕ) → List ℕ → Type 0
GoesOn {A = A} Fits text front = (a : A) × (rest : List ℕ) × Fits a × (text a ≡ front ++ rest)

-- the bytes are the text of no value, and their longest front that the text of some value begins with has n bytes
pub record BreaksAt {A : Type 0} (Fits : A → Type 0) (text : A → List ℕ) (bytes : List ℕ) (n : ℕ) : Type 0 where
  pub no_text : (a : A) → Fits a → bytes ≡ text a → ⊥
  pub within : n ≤ length bytes
  pub goes_on : GoesOn Fits text (take n bytes)
  pub longest : (m : ℕ) → n < m → m ≤ length bytes → GoesOn Fits text (take m bytes) → ⊥
