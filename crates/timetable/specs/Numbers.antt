-- Least numbers, and pairs of numbers in rows of length n: (a, b) has the number a * n + b.
use Rattle.std.specs.Prelude.{ℕ, ◌+◌, ◌*◌, ◌/◌, ◌%◌, ◌<◌, ℤ, ◌<ℤ◌, Option, MatchOption}

-- the least number of which P holds, or none where P holds of no number
abbrev pub IsLeastOf : (ℕ → Type 0) → Option ℕ → Type 0
IsLeastOf P answer = MatchOption answer ((u : ℕ) → P u → ⊥) (λ u. P u × ((v : ℕ) → P v → v < u → ⊥))

-- P holds of no pair whose number is below i
abbrev pub NoneUnder : ℕ → ℕ → (ℕ → ℕ → Type 0) → Type 0
NoneUnder n i P = (a b : ℕ) → b < n → a * n + b < i → P a b → ⊥

-- the number of the first pair for which P holds of some shift, with the least such shift
abbrev pub IsFirstPartner : ℕ → (ℕ → ℕ → ℤ → Type 0) → Option (ℕ × ℤ) → Type 0
IsFirstPartner n P answer =
    MatchOption answer ((a b : ℕ) (s : ℤ) → b < n → P a b s → ⊥)
    (λ x. P (x.0 / n) (x.0 % n) x.1 × NoneUnder n x.0 (λ a b. (s : ℤ) × P a b s)
    × ((s : ℤ) → P (x.0 / n) (x.0 % n) s → s <ℤ x.1 → ⊥))
