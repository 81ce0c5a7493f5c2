-- When the lists of those who draw numbers are tidy. Source: this project's own.
use Rattle.std.specs.Prelude.{◌≡◌, ℕ, ◌==◌, List, min, nat_lt, sum_by, count_by, if◌then◌else◌}

-- how often x stands in the list
abbrev pub times : ℕ → List ℕ → ℕ
times x xs = count_by (λ y. y == x) xs

-- 1 for a number below the bound, 0 for any other
abbrev pub once_below : ℕ → ℕ → ℕ
once_below bound x = if nat_lt x bound then 1 else 0

-- The list holds each number below the bound exactly once, and nothing else.
abbrev pub EachOnceBelow : ℕ → List ℕ → Type 0
EachOnceBelow bound xs = (x : ℕ) → times x xs ≡ once_below bound x

-- The lists together hold each number below both `next` and n exactly once, and nothing else.
abbrev pub Tidy : ℕ → ℕ → List (List ℕ) → Type 0
Tidy next n lists = (x : ℕ) → sum_by (λ xs. times x xs) lists ≡ once_below (min next n) x
