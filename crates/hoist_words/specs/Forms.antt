-- What one word behind the command is.
use Rattle.std.specs.Prelude.{◌≡◌, ◌≢◌, ℕ, List, ◌++◌, codes, Option, MatchOption}
use Rattle.std.specs.Borrow.{Bor}
use Rattle.hoist_words.specs.Request.{IsFileName}
use Rattle.hoist_words.specs.declared.forms.Name.{Name}
use Rattle.hoist_words.specs.declared.forms.Name.TheVariants.{Budget, Workers, Carriers, Upto}
use Rattle.hoist_words.specs.declared.forms.Form.{Form}
use Rattle.hoist_words.specs.declared.forms.Form.TheVariants.{File, Opens, Given, Other}

abbrev pub name_of : Name → List ℕ
name_of Budget = codes "budget"
name_of Workers = codes "workers"
name_of Carriers = codes "carriers"
name_of Upto = codes "upto"

-- an option without its value
abbrev pub opening : List ℕ → List ℕ
opening name = codes "--" ++ name

-- an option with its value in one word
abbrev pub joined : List ℕ → List ℕ → List ℕ
joined name value = codes "--" ++ (name ++ (codes "=" ++ value))

-- what stands behind the start of a word, where the word starts so
abbrev pub StartsWith : List ℕ → List ℕ → Option (Bor (List ℕ)) → Type 0
StartsWith word start answer = MatchOption answer ((rest : List ℕ) → word ≢ start ++ rest) (λ rest. word ≡ start ++ rest.now)

-- what a word is, as the option of one name
abbrev pub IsFormOf : List ℕ → Name → List ℕ → Form → Type 0
IsFormOf word name start (File file) = ⊥
IsFormOf word name start (Opens seen) = (seen ≡ name) × (word ≡ start)
IsFormOf word name start (Given seen value) = (seen ≡ name) × (word ≡ start ++ (codes "=" ++ value.now))
IsFormOf word name start Other = (word ≢ start) × ((value : List ℕ) → word ≢ start ++ (codes "=" ++ value))

-- what a word is
abbrev pub IsForm : List ℕ → Form → Type 0
IsForm word (File file) = (file.now ≡ word) × IsFileName word
IsForm word (Opens name) = word ≡ opening (name_of name)
IsForm word (Given name value) = word ≡ joined (name_of name) value.now
IsForm word Other =
    (IsFileName word → ⊥)
    × ((name : Name) → (word ≢ opening (name_of name)) × ((value : List ℕ) → word ≢ joined (name_of name) value))
