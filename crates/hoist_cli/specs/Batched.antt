-- What `batch` prints.
use Rattle.std.specs.Prelude.{◌≡◌, ℕ, ◌<◌, ◌⊎◌, List, length, get_or, codes, decimal, Option, [], ⊤}
use Rattle.std.specs.List.{AllZip}
use Rattle.hoist_base.specs.Valid.{IsLine}
use Rattle.line_text.specs.declared.why.LineRead.{LineRead}
use Rattle.line_text.specs.declared.why.LineRead.TheVariants.{Ready, Refused}
use Rattle.line_text.specs.File.{bytes_read}
use Rattle.outside.specs.Shelf.{Files}
use Rattle.file_list.specs.declared.read.ListRead.{ListRead}
use Rattle.file_list.specs.declared.read.ListRead.TheVariants as lists
use Rattle.file_list.specs.FileList.{IsListRead}
use Rattle.batch_lines.specs.declared.single.Single.{Single}
use Rattle.batch_lines.specs.Parts.{IsBatchText}
use Rattle.hoist_cli.specs.declared.status.Status.{Status}
use Rattle.hoist_cli.specs.declared.status.Status.TheVariants.{Done, Broken}
use Rattle.hoist_cli.specs.Exit.{number_of}
use Rattle.hoist_cli.specs.Solved.{SolveReply}
use Rattle.hoist_cli.specs.Reading.{Replies, Reading, IsLineOf, IsFile, IsFileRefusal, AfterFile, line_limit}

-- a line that was read is valid
abbrev pub IsValidRead : LineRead → Type 0
IsValidRead (Ready l) = IsLine l
IsValidRead (Refused why) = ⊤

-- the file of this name was read, within its limit, and this is what its bytes are as a line file
pub record IsReadAs (files : Option Files) (name : List ℕ) (read : LineRead) : Type 0 where
  pub bytes : List ℕ
  pub file : IsFile files name line_limit bytes
  pub is : bytes_read bytes ≡ read
  pub valid : IsValidRead read

-- so each of the named files
abbrev pub AreReadAs : Option Files → List (List ℕ) → List LineRead → Type 0
AreReadAs files names reads = AllZip (IsReadAs files) names reads

-- a named file is refused, and all that are named before it were read
pub record IsListedStop (r : Reading) (names : List (List ℕ)) (status : Status) (text : List ℕ) : Type 0 where
  pub index : ℕ
  pub there : index < length names
  pub before : (i : ℕ) → i < index → (bytes : List ℕ) × IsFile r.files (get_or names i []) line_limit bytes
  pub refused : IsFileRefusal r (get_or names index []) line_limit status text

-- the text of the parts of all named files
abbrev pub IsBatchOf : Reading → ℕ → List (List ℕ) → Replies
IsBatchOf r budget names status text =
    (reads : List LineRead) × AreReadAs r.files names reads × (status ≡ Done) × IsBatchText budget reads text

-- the reply to what the bytes of a list are
abbrev pub AfterList : Reading → ℕ → ListRead → Replies
AfterList r budget (lists.Ready names) status text = IsListedStop r names status text ⊎ IsBatchOf r budget names status text
AfterList r budget (lists.Broken offset) status text = IsLineOf Broken (codes "list broken at byte ") (decimal offset) status text

abbrev pub IsListReply : Reading → ℕ → List ℕ → Replies
IsListReply r budget bytes status text = (read : ListRead) × IsListRead bytes read × AfterList r budget read status text

-- what `solve` prints for the file of this name and the budget, and with which status
abbrev pub IsSolvedPart : Reading → ℕ → List ℕ → Single → Type 0
IsSolvedPart r budget name part =
    (status : Status) × (part.status ≡ number_of status) × SolveReply r name budget status part.text

abbrev pub BatchReply : Reading → List ℕ → ℕ → Replies
BatchReply r list budget = AfterFile r list line_limit (IsListReply r budget)
