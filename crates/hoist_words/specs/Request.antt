-- What the words of the program mean. Word 0 is the program's name, word 1 the command.
use Rattle.std.specs.Prelude.{◌≡◌, ℕ, ◌≤◌, ◌⊎◌, List, [], ◌∷◌, ◌++◌, length, map, drop, codes, decimal, slice_get, String, string_bytes, Bool}
use Rattle.std.specs.Prelude.{if◌then◌else◌, Option, Some, None}
use Rattle.std.specs.List.{Contains}
use Rattle.std.specs.Str.{bytes_eq}
use Rattle.std.specs.declared.alloc.Global.{Global}
use Rattle.hoist_words.specs.Table.{name_of_command, row_of}
use Rattle.hoist_words.specs.declared.table.CommandName.{CommandName}
use Rattle.hoist_words.specs.declared.table.CommandName.TheVariants as command
use Rattle.hoist_words.specs.declared.table.Limits.{Limits}
use Rattle.hoist_words.specs.declared.numbers.Numbers.{Numbers}
use Rattle.hoist_words.specs.declared.requests.Request.{Request}
use Rattle.hoist_words.specs.declared.requests.Request.TheVariants.{Solve, Check, Run, Chart, Drill, Sweep, Margin, Follow, Batch}

-- the words as lists of bytes
abbrev pub words_of : List (String Global) → List (List ℕ)
words_of words = map string_bytes words

-- the name of a file isn't empty and doesn't begin with a dash; nor does a number in its place
abbrev pub IsFileName : List ℕ → Type 0
IsFileName [] = ⊥
IsFileName (b ∷ bs) = b ≡ 45 → ⊥

-- what stands behind the command: the name of a file or a number in its place, or an option with its name and its value
pub data Item : Type 0 where
  File : List ℕ → Item
  Given : List ℕ → List ℕ → Item

-- the words say these items, one after another: a file by its name; an option as one word, with two dashes before its
-- name and = before its value, or as two words
abbrev pub Says : List Item → List (List ℕ) → Type 0
Says [] words = words ≡ []
Says (File name ∷ items) [] = ⊥
Says (File name ∷ items) (w ∷ words) = (w ≡ name) × IsFileName name × Says items words
Says (Given name value ∷ items) [] = ⊥
Says (Given name value ∷ items) (w ∷ words) =
    ((w ≡ codes "--" ++ (name ++ (codes "=" ++ value))) × Says items words)
    ⊎ ((w ≡ codes "--" ++ name) × ((rest : List (List ℕ)) × (words ≡ value ∷ rest) × Says items rest))

-- the items that are no options
abbrev pub files_of : List Item → List (List ℕ)
files_of [] = []
files_of (File name ∷ items) = name ∷ files_of items
files_of (Given name value ∷ items) = files_of items

-- every option has one of these names
abbrev pub AreKnown : List (List ℕ) → List Item → Type 0
AreKnown names items = (name value : List ℕ) → Contains items (Given name value) → Contains names name

-- the values that an option of this name is given
abbrev pub values_of : (List ℕ → Bool) → List Item → List (List ℕ)
values_of is_it [] = []
values_of is_it (File name ∷ items) = values_of is_it items
values_of is_it (Given name value ∷ items) = if is_it name then value ∷ values_of is_it items else values_of is_it items

-- an option is given at most once, with a number from least to most in its decimal digits; where it isn't given it has
-- its default
abbrev pub IsValue : List (List ℕ) → ℕ → ℕ → ℕ → ℕ → Type 0
IsValue [] default least most n = n ≡ default
IsValue (v ∷ []) default least most n = (v ≡ decimal n) × (least ≤ n) × (n ≤ most)
IsValue (v ∷ w ∷ vs) default least most n = ⊥

abbrev pub is_budget : List ℕ → Bool
is_budget name = bytes_eq name (codes "budget")

abbrev pub is_workers : List ℕ → Bool
is_workers name = bytes_eq name (codes "workers")

abbrev pub is_carriers : List ℕ → Bool
is_carriers name = bytes_eq name (codes "carriers")

abbrev pub is_upto : List ℕ → Bool
is_upto name = bytes_eq name (codes "upto")

-- the names of all options
abbrev pub option_names : List (List ℕ)
option_names = codes "budget" ∷ codes "workers" ∷ codes "carriers" ∷ codes "upto" ∷ []

-- the number of an option under its limits; an option that the command doesn't take isn't given, and its number is 0
abbrev pub IsNumber : Option Limits → List (List ℕ) → ℕ → Type 0
IsNumber None vs n = (vs ≡ []) × (n ≡ 0)
IsNumber (Some l) vs n = IsValue vs l.default l.least l.most n

-- the files among the words that are no options, under the greatest seed that a command takes: all of them, or none
-- where it takes a seed
abbrev pub files_under : Option ℕ → List (List ℕ) → List (List ℕ)
files_under None placed = placed
files_under (Some most) placed = []

-- the seed: the one word that is no option is its decimal digits; a command that takes no seed has 0
abbrev pub IsSeed : Option ℕ → List (List ℕ) → ℕ → Type 0
IsSeed None placed n = n ≡ 0
IsSeed (Some most) placed n = (placed ≡ decimal n ∷ []) × (n ≤ most)

-- the words ask for this command, with these files and numbers: the words that are no options are as many as its row
-- says, and are files or the seed, and each option keeps the limits of its row
pub record AsksFor (command : CommandName) (words files : List (List ℕ)) (numbers : Numbers) : Type 0 where
  pub named : slice_get words 1 ≡ Some (name_of_command command)
  pub items : List Item
  pub says : Says items (drop 2 words)
  pub known : AreKnown option_names items
  pub count : length (files_of items) ≡ (row_of command).files
  pub files_are : files_under (row_of command).seed (files_of items) ≡ files
  pub seed_is : IsSeed (row_of command).seed (files_of items) numbers.seed
  pub budget_is : IsNumber (row_of command).budget (values_of is_budget items) numbers.budget
  pub workers_are : IsNumber (row_of command).workers (values_of is_workers items) numbers.workers
  pub carriers_are : IsNumber (row_of command).carriers (values_of is_carriers items) numbers.carriers
  pub upto_is : IsNumber (row_of command).upto (values_of is_upto items) numbers.upto

-- the words ask for nothing that the program does
abbrev pub AskNothing : List (List ℕ) → Type 0
AskNothing words = (command : CommandName) (files : List (List ℕ)) (numbers : Numbers) → AsksFor command words files numbers → ⊥

-- the numbers of a command that takes no options
abbrev pub no_numbers : Numbers
no_numbers = record { budget = 0; workers = 0; carriers = 0; upto = 0; seed = 0 }

-- the words ask to solve the line of a file with a budget of splits and so many workers
abbrev pub AsksSolve : List (List ℕ) → List ℕ → ℕ → ℕ → Type 0
AsksSolve words file budget workers = AsksFor command.Solve words (file ∷ []) (record no_numbers { budget = budget; workers = workers })

-- the words ask to check an answer to the line of a file
abbrev pub AsksCheck : List (List ℕ) → List ℕ → List ℕ → Type 0
AsksCheck words file answer = AsksFor command.Check words (file ∷ answer ∷ []) no_numbers

-- the words ask to run an answer to the line of a file with so many carriers
abbrev pub AsksRun : List (List ℕ) → List ℕ → List ℕ → ℕ → Type 0
AsksRun words file answer carriers = AsksFor command.Run words (file ∷ answer ∷ []) (record no_numbers { carriers = carriers })

-- the words ask to draw an answer to the line of a file
abbrev pub AsksChart : List (List ℕ) → List ℕ → List ℕ → Type 0
AsksChart words file answer = AsksFor command.Chart words (file ∷ answer ∷ []) no_numbers

-- the words ask for the drill of a seed
abbrev pub AsksDrill : List (List ℕ) → ℕ → Type 0
AsksDrill words seed = AsksFor command.Drill words [] (record no_numbers { seed = seed })

-- the words ask to solve the line of a file with each degree up to this one, with a budget of splits and so many
-- workers
abbrev pub AsksSweep : List (List ℕ) → List ℕ → ℕ → ℕ → ℕ → Type 0
AsksSweep words file upto budget workers =
    AsksFor command.Sweep words (file ∷ []) (record no_numbers { budget = budget; workers = workers; upto = upto })

-- the words ask for the margin of an answer to the line of a file
abbrev pub AsksMargin : List (List ℕ) → List ℕ → List ℕ → Type 0
AsksMargin words file answer = AsksFor command.Margin words (file ∷ answer ∷ []) no_numbers

-- the words ask to follow a log of the line of a file
abbrev pub AsksFollow : List (List ℕ) → List ℕ → List ℕ → Type 0
AsksFollow words file log = AsksFor command.Follow words (file ∷ log ∷ []) no_numbers

-- the words ask to solve each line of a list with a budget of splits and so many workers
abbrev pub AsksBatch : List (List ℕ) → List ℕ → ℕ → ℕ → Type 0
AsksBatch words list budget workers = AsksFor command.Batch words (list ∷ []) (record no_numbers { budget = budget; workers = workers })

-- the command, the files and the numbers of a request
abbrev pub command_in : Request → CommandName
command_in (Solve file budget workers) = command.Solve
command_in (Check file answer) = command.Check
command_in (Run file answer carriers) = command.Run
command_in (Chart file answer) = command.Chart
command_in (Drill seed) = command.Drill
command_in (Sweep file upto budget workers) = command.Sweep
command_in (Margin file answer) = command.Margin
command_in (Follow file log) = command.Follow
command_in (Batch list budget workers) = command.Batch

abbrev pub files_in : Request → List (List ℕ)
files_in (Solve file budget workers) = string_bytes file ∷ []
files_in (Check file answer) = string_bytes file ∷ string_bytes answer ∷ []
files_in (Run file answer carriers) = string_bytes file ∷ string_bytes answer ∷ []
files_in (Chart file answer) = string_bytes file ∷ string_bytes answer ∷ []
files_in (Drill seed) = []
files_in (Sweep file upto budget workers) = string_bytes file ∷ []
files_in (Margin file answer) = string_bytes file ∷ string_bytes answer ∷ []
files_in (Follow file log) = string_bytes file ∷ string_bytes log ∷ []
files_in (Batch list budget workers) = string_bytes list ∷ []

abbrev pub numbers_in : Request → Numbers
numbers_in (Solve file budget workers) = record no_numbers { budget = budget; workers = workers }
numbers_in (Check file answer) = no_numbers
numbers_in (Run file answer carriers) = record no_numbers { carriers = carriers }
numbers_in (Chart file answer) = no_numbers
numbers_in (Drill seed) = record no_numbers { seed = seed }
numbers_in (Sweep file upto budget workers) = record no_numbers { budget = budget; workers = workers; upto = upto }
numbers_in (Margin file answer) = no_numbers
numbers_in (Follow file log) = no_numbers
numbers_in (Batch list budget workers) = record no_numbers { budget = budget; workers = workers }

-- the request of the words, or that they ask for nothing
abbrev pub IsRequestOf : List (List ℕ) → Option Request → Type 0
IsRequestOf words None = AskNothing words
IsRequestOf words (Some request) = AsksFor (command_in request) words (files_in request) (numbers_in request)
