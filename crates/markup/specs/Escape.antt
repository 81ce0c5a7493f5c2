-- Words that stand between the marks of elements, or in an attribute.
use Rattle.std.specs.Prelude.{◌≢◌, ℕ, ◌==◌, if◌then◌else◌, List, [], ◌∷◌, codes, flat_map, All}

-- a byte that would begin or end a mark or a value is named
abbrev pub escape_of : ℕ → List ℕ
escape_of b =
    if b == 38 then codes "&amp;"
    else (if b == 60 then codes "&lt;" else (if b == 62 then codes "&gt;" else (if b == 34 then codes "&quot;" else b ∷ [])))

abbrev pub escaped : List ℕ → List ℕ
escaped words = flat_map escape_of words

-- the byte neither begins nor ends a mark or a value
abbrev pub IsInner : ℕ → Type 0
IsInner b = (b ≢ 60) × (b ≢ 62) × (b ≢ 34)

-- whatever the words, no byte of them does so once they are escaped
abbrev pub NothingIsRaw : Type 0
NothingIsRaw = (words : List ℕ) → All IsInner (escaped words)
