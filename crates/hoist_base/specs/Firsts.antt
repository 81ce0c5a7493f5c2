-- The first of some items of which a function gives anything.
use Rattle.std.specs.Prelude.{ℕ, ◌-◌, List, [], ◌∷◌, Bool, Option, Some, None, if◌then◌else◌}
use Rattle.std.specs.List.{range_with_len}
use Rattle.std.specs.Option.{option_or}

-- what h gives of the first item of which it gives anything
abbrev pub first_some : {X Y : Type 0} → (X → Option Y) → List X → Option Y
first_some h [] = None
first_some h (x ∷ xs) = option_or (h x) (first_some h xs)

-- the numbers from a on, below n
abbrev pub numbers_from : ℕ → ℕ → List ℕ
numbers_from a n = range_with_len a (n - a)

abbrev pub numbers : ℕ → List ℕ
numbers n = numbers_from 0 n

-- where b holds, this
abbrev pub given : {X : Type 0} → Bool → X → Option X
given b x = if b then Some x else None
