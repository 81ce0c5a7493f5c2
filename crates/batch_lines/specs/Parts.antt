-- The text of a batch: a part for each file, and last how many there are.
use Rattle.std.specs.Prelude.{◌≡◌, ℕ, ◌+◌, List, [], ◌∷◌, ◌++◌, codes, decimal, length, Option, Some, None}
use Rattle.std.specs.List.{AllZip}
use Rattle.hoist_base.specs.LineData.{LineData}
use Rattle.line_text.specs.declared.why.Why.{Why}
use Rattle.line_text.specs.declared.why.LineRead.{LineRead}
use Rattle.line_text.specs.declared.why.LineRead.TheVariants.{Ready, Refused}
use Rattle.line_text.specs.Refusal.{refusal_of}
use Rattle.text_writing.specs.Texts.{end}
use Rattle.batch_lines.specs.declared.single.Single.{Single}
use Rattle.batch_lines.specs.Batch.{IsSingle}

-- what is printed of a file that is no line: why, with the status of that
abbrev pub refusal_part : Why → Single
refusal_part why = record { status = 4; text = codes "line refused: " ++ (refusal_of why ++ end) }

-- what is printed of a file
abbrev pub IsPart : ℕ → LineRead → Single → Type 0
IsPart budget (Ready l) part = IsSingle l budget part
IsPart budget (Refused why) part = part ≡ refusal_part why

-- a part, with the number of its file and its status
abbrev pub part_text : ℕ → Single → List ℕ
part_text number part = codes "file " ++ (decimal number ++ (codes " status " ++ (decimal part.status ++ (end ++ part.text))))

-- the parts of the files from this number on
abbrev pub parts_text : ℕ → List Single → List ℕ
parts_text number [] = []
parts_text number (part ∷ parts) = part_text number part ++ parts_text (number + 1) parts

abbrev pub text_of : List Single → List ℕ
text_of parts = parts_text 0 parts ++ (codes "done " ++ (decimal (length parts) ++ end))

-- the text of the parts of all files, in the order of the files
abbrev pub IsBatchText : ℕ → List LineRead → List ℕ → Type 0
IsBatchText budget reads text = (parts : List Single) × AllZip (IsPart budget) reads parts × (text ≡ text_of parts)

-- ---- how the parts are put together

-- the lines among the files
abbrev pub lines_of : List LineRead → List LineData
lines_of [] = []
lines_of (Ready l ∷ reads) = l ∷ lines_of reads
lines_of (Refused why ∷ reads) = lines_of reads

-- why a file is no line
abbrev pub why_of : LineRead → Option Why
why_of (Ready l) = None
why_of (Refused why) = Some why

-- how many files are lines
abbrev pub count_lines : List (Option Why) → ℕ
count_lines [] = 0
count_lines (None ∷ whys) = count_lines whys + 1
count_lines (Some why ∷ whys) = count_lines whys

-- a file that is a line takes the next of the singles
abbrev pub parts_of : List (Option Why) → List Single → List Single
parts_of [] singles = []
parts_of (Some why ∷ whys) singles = refusal_part why ∷ parts_of whys singles
parts_of (None ∷ whys) [] = []
parts_of (None ∷ whys) (single ∷ singles) = single ∷ parts_of whys singles
