-- What was written before and after a write.
use Rattle.std.specs.Prelude.{ℕ, List, [], ◌++◌, take, Option, Result, Ok, Err}
use Rattle.std.specs.Option.{option_map}

-- what is written once these bytes stand behind it, where it is told
abbrev pub appended : Option (List ℕ) → List ℕ → Option (List ℕ)
appended old bytes = option_map (λ written. written ++ bytes) old

-- the bytes of a piece that a write took: as many of its first ones as it answered, none at a refusal
abbrev pub taken : {E : Type 0} → Result ℕ E → List ℕ → List ℕ
taken (Ok count) piece = take count piece
taken (Err fault) piece = []
