-- What the words behind the command say.
use Rattle.std.specs.Prelude.{◌≡◌, ℕ, ◌≤◌, List, [], ◌∷◌, length, ⊤, Bool, true, false, is_some, Option, Some, None}
use Rattle.std.specs.Borrow.{Bor}
use Rattle.hoist_words.specs.Request.{Item, Says, IsFileName, AreKnown, files_of, option_names, values_of, is_budget, is_workers, is_carriers, is_upto}
use Rattle.hoist_words.specs.declared.found.Files.{Files}
use Rattle.hoist_words.specs.declared.found.Files.TheVariants.{Empty, One, Two}
use Rattle.hoist_words.specs.declared.found.Found.{Found}
use Rattle.hoist_words.specs.declared.table.CommandRow.{CommandRow}
use Rattle.hoist_words.specs.declared.table.Limits.{Limits}

-- a value that may be given, as a list
abbrev pub listed : Option (Bor (List ℕ)) → List (List ℕ)
listed None = []
listed (Some value) = value.now ∷ []

-- the words that are no options
abbrev pub names_of : Files → List (List ℕ)
names_of Empty = []
names_of (One file) = file.now ∷ []
names_of (Two file answer) = file.now ∷ answer.now ∷ []

-- the options among the items are options of the program
abbrev pub AreOptions : List Item → Type 0
AreOptions items = AreKnown option_names items

-- each of these words is the name of a file
abbrev pub AreFileNames : List (List ℕ) → Type 0
AreFileNames [] = ⊤
AreFileNames (name ∷ names) = IsFileName name × AreFileNames names

-- what was found is what the items have
pub record Fits (items : List Item) (found : Found) : Type 0 where
  pub files : files_of items ≡ names_of found.files
  pub budget : values_of is_budget items ≡ listed found.budget
  pub workers : values_of is_workers items ≡ listed found.workers
  pub carriers : values_of is_carriers items ≡ listed found.carriers
  pub upto : values_of is_upto items ≡ listed found.upto

-- two words at most that are no options, and each option once at most
abbrev pub AreFew : List Item → Type 0
AreFew items =
    (length (files_of items) ≤ 2) × (length (values_of is_budget items) ≤ 1) × (length (values_of is_workers items) ≤ 1)
    × (length (values_of is_carriers items) ≤ 1) × (length (values_of is_upto items) ≤ 1)

-- what was found is what the words say; or they say nothing that is few
abbrev pub IsFound : List (List ℕ) → Option Found → Type 0
IsFound words None = (items : List Item) → Says items words → AreOptions items → AreFew items → ⊥
IsFound words (Some found) = (items : List Item) × Says items words × AreOptions items × Fits items found

-- the same with an item in front, or the item is one too many
abbrev pub IsWith : Item → Found → Option Found → Type 0
IsWith item found None = (items : List Item) → Fits items found → AreFew (item ∷ items) → ⊥
IsWith item found (Some more) = (items : List Item) → Fits items found → Fits (item ∷ items) more

-- an option is not given, or is given to a command that takes it, as a word that doesn't begin with a dash
abbrev pub IsPlainFor : Option Limits → List (List ℕ) → Type 0
IsPlainFor limits [] = ⊤
IsPlainFor limits (v ∷ vs) = (is_some limits ≡ true) × IsFileName v

-- whether it is so
abbrev pub IsOptionFit : Option Limits → List (List ℕ) → Bool → Type 0
IsOptionFit limits vs true = IsPlainFor limits vs
IsOptionFit limits vs false = IsPlainFor limits vs → ⊥

-- what was found is as the command's row has it
pub record FitsRow (row : CommandRow) (found : Found) : Type 0 where
  pub files : length (names_of found.files) ≡ row.files
  pub budget : IsPlainFor row.budget (listed found.budget)
  pub workers : IsPlainFor row.workers (listed found.workers)
  pub carriers : IsPlainFor row.carriers (listed found.carriers)
  pub upto : IsPlainFor row.upto (listed found.upto)

abbrev pub IsFit : CommandRow → Found → Bool → Type 0
IsFit row found true = FitsRow row found
IsFit row found false = FitsRow row found → ⊥
