-- Parts that the texts share.
use Rattle.std.specs.Prelude.{ℕ, List, ◌++◌, codes, decimal}

-- the end of a line
abbrev pub end : List ℕ
end = codes "\n"

-- two numbers with a blank between them
abbrev pub pair_text : ℕ → ℕ → List ℕ
pair_text first second = decimal first ++ (codes " " ++ decimal second)
