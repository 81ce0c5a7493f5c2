-- A row with all that the search shows.
use Rattle.std.specs.Prelude.{◌≡◌, ℕ, ◌+◌, ◌<◌, List, length, get_or}
use Rattle.hoist_base.specs.LineData.{LineData}
use Rattle.branch_rounds.specs.declared.outcome.Outcome.{Outcome}
use Rattle.branch_rounds.specs.Searched.{IsSearched}
use Rattle.solve_line.specs.AnswerOf.{verdict_of}
use Rattle.degree_sweep.specs.declared.rows.DegreeRow.{DegreeRow}
use Rattle.degree_sweep.specs.Sweep.{with_degree, period_of}

-- the row of an outcome of the search of the line with this degree
pub record IsShown (l : LineData) (budget r : ℕ) (row : DegreeRow) : Type 0 where
  pub outcome : Outcome
  pub searched : IsSearched (with_degree l r) budget outcome
  pub degree : row.degree ≡ r
  pub verdict : row.verdict ≡ verdict_of outcome
  pub bound : row.bound ≡ outcome.bound
  pub splits : row.splits ≡ outcome.splits
  pub period : row.period ≡ period_of outcome.best

-- so each row, for the degrees 1, 2, 3 and so on
abbrev pub AreShown : LineData → ℕ → List DegreeRow → Type 0
AreShown l budget rows = (i : ℕ) (none : DegreeRow) → i < length rows → IsShown l budget (i + 1) (get_or rows i none)
