-- Words that stand right in a place.
use Rattle.std.specs.Prelude.{ℕ, ◌-◌, List, ◌++◌, length, replicate}

-- blanks before the word fill the place; a word that is wider than its place stands alone
abbrev pub right_in : ℕ → List ℕ → List ℕ
right_in width word = replicate (width - length word) 32 ++ word
