-- The first of some numbers, or of some moves, that meets a test.
use Rattle.std.specs.Prelude.{ℕ, zero, suc, Bool, cond, Option, Some, None}

-- the value of the lowest number below n that has one
abbrev pub or_value : {A : Type 0} → Option A → Option A → Option A
or_value None b = b
or_value (Some a) b = Some a

abbrev pub lowest : {A : Type 0} → ℕ → (ℕ → Option A) → Option A
lowest zero value = None
lowest (suc n) value = or_value (lowest n value) (value n)

-- the value of the lowest number below n that meets the test
abbrev pub pick : {A : Type 0} → ℕ → (ℕ → Bool) → (ℕ → A) → Option A
pick n test value = lowest n (λ i. cond (test i) (Some (value i)) None)

-- the value of the first move that meets the test, of the first carriers and with so many steps each
abbrev pub pick_move : {A : Type 0} → ℕ → ℕ → (ℕ → ℕ → Bool) → (ℕ → ℕ → A) → Option A
pick_move carriers steps test value = lowest carriers (λ c. pick steps (test c) (value c))
