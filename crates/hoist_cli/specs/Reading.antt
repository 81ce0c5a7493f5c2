-- What is read from the shelf, line files and answer files, and the replies that refuse them.
use Rattle.std.specs.Prelude.{◌≡◌, ℕ, ◌<◌, ◌≤◌, ◌^◌, ◌⊎◌, List, ◌++◌, length, codes, decimal, Option, IfSome}
use Rattle.hoist_base.specs.LineData.{LineData}
use Rattle.hoist_base.specs.Valid.{IsLine}
use Rattle.line_text.specs.declared.why.Why.{Why}
use Rattle.line_text.specs.declared.why.LineRead.TheVariants.{Ready, Refused}
use Rattle.line_text.specs.File.{bytes_read}
use Rattle.line_text.specs.Refusal.{refusal_of}
use Rattle.outside.specs.Count.{Rose}
use Rattle.outside.specs.Shelf.{Files, bytes_of}
use Rattle.answer_text.specs.declared.answer.Answer.{Answer}
use Rattle.answer_read.specs.Answers.{IsTextOf, BreaksAt}
use Rattle.hoist_cli.specs.declared.status.Status.{Status}
use Rattle.hoist_cli.specs.declared.status.Status.TheVariants as statuses

-- a reply: the status, and the text that is printed
abbrev pub Replies : Type 1
Replies = Status → List ℕ → Type 0

-- a status, and a word and what it is about as one line
abbrev pub IsLineOf : Status → List ℕ → List ℕ → Replies
IsLineOf want word about status text = (status ≡ want) × (text ≡ word ++ (about ++ codes "\n"))

-- ---- files

-- what is known of the shelf of a run: its files, where it tells them, and how often a read had failed before and after
pub record Reading : Type 0 where
  pub files : Option Files
  pub before : ℕ
  pub after : ℕ

abbrev pub reading : Option Files → ℕ → ℕ → Reading
reading files before after = record { files = files; before = before; after = after }

-- the most bytes that a line file and a list have
abbrev pub line_limit : ℕ
line_limit = 65536

-- the most bytes that an answer file and a log have
abbrev pub answer_limit : ℕ
answer_limit = 2 ^ 30

-- the file of this name was read, is within its limit and has these bytes, which are those that the shelf tells
pub record IsFile (files : Option Files) (name : List ℕ) (limit : ℕ) (bytes : List ℕ) : Type 0 where
  pub told : IfSome files (λ fs. bytes ≡ bytes_of fs name)
  pub small : length bytes ≤ limit

-- the file of this name is too long
abbrev pub IsLong : Option Files → List ℕ → ℕ → Type 0
IsLong files name limit = IfSome files (λ fs. limit < length (bytes_of fs name))

-- a read failed, or the file of this name is too long
abbrev pub IsFileRefusal : Reading → List ℕ → ℕ → Replies
IsFileRefusal r name limit status text =
    (Rose r.before r.after × IsLineOf statuses.Read (codes "read fault: ") name status text)
    ⊎ (IsLong r.files name limit × IsLineOf statuses.Long (codes "too long: ") name status text)

-- the reply where the bytes of the file of this name are asked for: a refusal, or what they call for
abbrev pub AfterFile : Reading → List ℕ → ℕ → (List ℕ → Replies) → Replies
AfterFile r name limit Next status text =
    IsFileRefusal r name limit status text ⊎ ((bytes : List ℕ) × IsFile r.files name limit bytes × Next bytes status text)

-- ---- line files

-- the file of this name was read, within its limit, and is a line
pub record IsLineIn (files : Option Files) (name : List ℕ) (l : LineData) : Type 0 where
  pub bytes : List ℕ
  pub file : IsFile files name line_limit bytes
  pub read : bytes_read bytes ≡ Ready l
  pub valid : IsLine l

-- the file of this name was read, within its limit, and this is the first thing that is wrong with it as a line
pub record IsNoLine (files : Option Files) (name : List ℕ) (why : Why) : Type 0 where
  pub bytes : List ℕ
  pub file : IsFile files name line_limit bytes
  pub read : bytes_read bytes ≡ Refused why

-- the reply where the file of this name gives no line
abbrev pub IsLineStop : Reading → List ℕ → Replies
IsLineStop r name status text =
    IsFileRefusal r name line_limit status text
    ⊎ ((why : Why) × IsNoLine r.files name why × IsLineOf statuses.Line (codes "line refused: ") (refusal_of why) status text)

-- the reply where the file of this name is to be a line: a refusal, or what its line calls for
abbrev pub AfterLine : Reading → List ℕ → (LineData → Replies) → Replies
AfterLine r name Next status text =
    IsLineStop r name status text ⊎ ((l : LineData) × IsLineIn r.files name l × Next l status text)

-- ---- answer files

-- the file of this name was read, within its limit, and is the text of this answer to a line
pub record IsAnswerIn (files : Option Files) (l : LineData) (name : List ℕ) (a : Answer) : Type 0 where
  pub bytes : List ℕ
  pub file : IsFile files name answer_limit bytes
  pub text : IsTextOf l bytes a

-- the file of this name was read, within its limit, and is the text of no answer to a line from this byte on
pub record IsNoAnswer (files : Option Files) (l : LineData) (name : List ℕ) (offset : ℕ) : Type 0 where
  pub bytes : List ℕ
  pub file : IsFile files name answer_limit bytes
  pub breaks : BreaksAt l bytes offset

-- the reply where the file of this name gives no answer
abbrev pub IsAnswerStop : Reading → LineData → List ℕ → Replies
IsAnswerStop r l name status text =
    IsFileRefusal r name answer_limit status text
    ⊎ ((offset : ℕ) × IsNoAnswer r.files l name offset
    × IsLineOf statuses.Broken (codes "answer broken at byte ") (decimal offset) status text)

-- the reply where the file of this name is to be an answer to a line: a refusal, or what the answer calls for
abbrev pub AfterAnswer : Reading → LineData → List ℕ → (Answer → Replies) → Replies
AfterAnswer r l name Next status text =
    IsAnswerStop r l name status text ⊎ ((a : Answer) × IsAnswerIn r.files l name a × Next a status text)

-- the reply where one file is to be a line and the other an answer to it
abbrev pub AnswerReply : Reading → List ℕ → List ℕ → (LineData → Answer → Replies) → Replies
AnswerReply r file answer Next = AfterLine r file (λ l. AfterAnswer r l answer (Next l))
