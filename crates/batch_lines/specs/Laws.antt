-- What is printed of several lines.
use Rattle.std.specs.Prelude.{◌≡◌, ℕ, ◌≤◌, List, All}
use Rattle.hoist_base.specs.LineData.{LineData}
use Rattle.hoist_base.specs.Valid.{IsLine}
use Rattle.line_text.specs.declared.why.LineRead.{LineRead}
use Rattle.batch_lines.specs.declared.single.Single.{Single}
use Rattle.batch_lines.specs.Batch.{AreSingles}
use Rattle.batch_lines.specs.Parts.{IsBatchText, lines_of}

-- lines and a budget have one list of singles
abbrev pub SinglesAreOne : Type 0
SinglesAreOne =
    (lines : List LineData) (budget : ℕ) (singles singles' : List Single) → All IsLine lines → budget ≤ 20000 → AreSingles lines budget singles
    → AreSingles lines budget singles' → singles ≡ singles'

-- what was read of the files, and the budget, have one text
abbrev pub BatchIsOne : Type 0
BatchIsOne =
    (reads : List LineRead) (budget : ℕ) (text text' : List ℕ) → All IsLine (lines_of reads) → budget ≤ 20000 → IsBatchText budget reads text
    → IsBatchText budget reads text' → text ≡ text'
