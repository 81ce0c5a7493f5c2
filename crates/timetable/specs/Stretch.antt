-- Stretches of ticks that come again each period.
use Rattle.std.specs.Prelude.{◌≡◌, ℕ, ◌+◌, ◌*◌, ◌<◌, ◌≤◌, ℤ, pos, ◌-ℤ◌, ◌<ℤ◌, Option, MatchOption}

-- copy z of the stretch from `begin` up to and without `end`, and copy z' of that from `begin'` up to and without
-- `end'`, have a tick in common
abbrev pub CopiesMeet : ℕ → ℕ → ℕ → ℕ → ℕ → ℕ → ℕ → Type 0
CopiesMeet period begin end begin' end' z z' =
    (t : ℕ) × (begin + z * period ≤ t) × (t < end + z * period) × (begin' + z' * period ≤ t) × (t < end' + z' * period)

-- the second stretch, moved by this many periods, meets the first
abbrev pub Meet : ℕ → ℕ → ℕ → ℕ → ℕ → ℤ → Type 0
Meet period begin end begin' end' shift =
    (z : ℕ) × (z' : ℕ) × CopiesMeet period begin end begin' end' z z' × (shift ≡ pos z' -ℤ pos z)

-- the least whole number of which P holds, or none where P holds of no number
abbrev pub IsLeastShift : (ℤ → Type 0) → Option ℤ → Type 0
IsLeastShift P answer = MatchOption answer ((s : ℤ) → P s → ⊥) (λ s. P s × ((s' : ℤ) → P s' → s' <ℤ s → ⊥))
