-- The commands as `clap` has them, and the requests of what they read.
use Rattle.std.specs.Prelude.{◌≡◌, ℕ, Bool, true, List, [], ◌∷◌, length, codes, nat_lt, is_some, if◌then◌else◌, Option, Some, None}
use Rattle.clap.specs.Words.{App, Rule, new_app, new_rule, with_rule, first_value}
use Rattle.clap.specs.declared.builder.action.ArgAction.TheVariants.{Set}
use Rattle.clap.specs.declared.parser.matches.Found.{Found}
use Rattle.hoist_words.specs.Table.{name_of_command, row_of}
use Rattle.hoist_words.specs.Request.{IsNumber, IsSeed, command_in, files_in, numbers_in}
use Rattle.hoist_words.specs.declared.table.CommandName.{CommandName}
use Rattle.hoist_words.specs.declared.table.CommandRow.{CommandRow}
use Rattle.hoist_words.specs.declared.numbers.Numbers.{Numbers}
use Rattle.hoist_words.specs.declared.requests.Request.{Request}

-- a positional word that has to be there
abbrev pub positional_rule : List ℕ → Rule
positional_rule id = record (new_rule id) { required = true; action = Some Set }

-- an option that takes a value, by its name
abbrev pub option_rule : List ℕ → Rule
option_rule id = record (new_rule id) { long = Some id; action = Some Set }

abbrev pub with_rule_if : Bool → Rule → App → App
with_rule_if is_taken rule app = if is_taken then with_rule app rule else app

-- the command of a row: its words that are no options by their places, and its options
abbrev pub app_by : List ℕ → CommandRow → App
app_by name row =
    with_rule_if (is_some row.upto) (option_rule (codes "upto"))
    (with_rule_if (is_some row.carriers) (option_rule (codes "carriers"))
    (with_rule_if (is_some row.workers) (option_rule (codes "workers"))
    (with_rule_if (is_some row.budget) (option_rule (codes "budget"))
    (with_rule_if (nat_lt 1 row.files) (positional_rule (codes "second"))
    (with_rule (new_app name) (positional_rule (codes "first")))))))

abbrev pub app_for : CommandName → App
app_for command = app_by (name_of_command command) (row_of command)

-- the words that were read and are no options, one or two
abbrev pub AreFiles : Found → List (List ℕ) → Type 0
AreFiles found [] = ⊥
AreFiles found (file ∷ []) = first_value found (codes "first") ≡ Some file
AreFiles found (file ∷ other ∷ files) =
    (first_value found (codes "first") ≡ Some file) × (first_value found (codes "second") ≡ Some other) × (files ≡ [])

-- a value that may be there, as a list
abbrev pub values : Option (List ℕ) → List (List ℕ)
values None = []
values (Some value) = value ∷ []

-- the numbers of what was read, each within the limits of the row
pub record AreNumbers (row : CommandRow) (found : Found) (numbers : Numbers) : Type 0 where
  pub budget : IsNumber row.budget (values (first_value found (codes "budget"))) numbers.budget
  pub workers : IsNumber row.workers (values (first_value found (codes "workers"))) numbers.workers
  pub carriers : IsNumber row.carriers (values (first_value found (codes "carriers"))) numbers.carriers
  pub upto : IsNumber row.upto (values (first_value found (codes "upto"))) numbers.upto
  pub seed : IsSeed row.seed (values (first_value found (codes "first"))) numbers.seed

-- the files of what was read: none where the command takes a seed
abbrev pub AreFilesOf : Option ℕ → ℕ → Found → List (List ℕ) → Type 0
AreFilesOf None count found files = (length files ≡ count) × AreFiles found files
AreFilesOf (Some most) count found files = files ≡ []

-- the request of what was read, or that the values are no numbers within their limits
abbrev pub IsReadOf : CommandName → Found → Option Request → Type 0
IsReadOf command found None = (numbers : Numbers) → AreNumbers (row_of command) found numbers → ⊥
IsReadOf command found (Some request) =
    (command_in request ≡ command) × AreFilesOf (row_of command).seed (row_of command).files found (files_in request)
    × AreNumbers (row_of command) found (numbers_in request)
