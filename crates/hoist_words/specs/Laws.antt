-- Words ask for one request at most.
use Rattle.std.specs.Prelude.{◌≡◌, ℕ, List}
use Rattle.hoist_words.specs.Request.{AsksFor}
use Rattle.hoist_words.specs.declared.table.CommandName.{CommandName}
use Rattle.hoist_words.specs.declared.numbers.Numbers.{Numbers}

abbrev pub OneRequest : Type 0
OneRequest =
    (words files files' : List (List ℕ)) (c c' : CommandName) (numbers numbers' : Numbers) → AsksFor c words files numbers
    → AsksFor c' words files' numbers' → (c ≡ c') × (files ≡ files') × (numbers ≡ numbers')
