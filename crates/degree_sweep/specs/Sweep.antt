-- A line at several degrees: what the search finds at each of them, and which degree lets a carrier in most often.
use Rattle.std.specs.Prelude.{◌≡◌, ℕ, ◌+◌, ◌*◌, ◌≤◌, ◌<◌, ◌⊎◌, List, length, get_or, option_map, Option, Some, None}
use Rattle.std.specs.List.{Contains}
use Rattle.hoist_base.specs.LineData.{LineData}
use Rattle.node_expand.specs.declared.solved.Solved.{Solved}
use Rattle.branch_rounds.specs.declared.outcome.Outcome.{Outcome}
use Rattle.branch_rounds.specs.Grown.{IsGrown}
use Rattle.answer_text.specs.declared.answer.Verdict.TheVariants.{Optimal}
use Rattle.solve_line.specs.AnswerOf.{verdict_of}
use Rattle.degree_sweep.specs.declared.rows.DegreeRow.{DegreeRow}
use Rattle.degree_sweep.specs.declared.swept.Swept.{Swept}

-- the line, in each period of which so many carriers enter
abbrev pub with_degree : LineData → ℕ → LineData
with_degree l degree = record l { degree = degree }

-- the period of the best of an outcome
abbrev pub period_of : Option Solved → Option ℕ
period_of best = option_map (λ (s : Solved). s.period) best

-- what the search of the line with this degree comes to
pub record IsRow (l : LineData) (budget r : ℕ) (row : DegreeRow) : Type 0 where
  pub outcome : Outcome
  pub grown : IsGrown (with_degree l r) budget outcome
  pub degree : row.degree ≡ r
  pub verdict : row.verdict ≡ verdict_of outcome
  pub bound : row.bound ≡ outcome.bound
  pub splits : row.splits ≡ outcome.splits
  pub period : row.period ≡ period_of outcome.best

-- a row for each degree from 1 to upto, in this order
pub record AreRows (l : LineData) (upto budget : ℕ) (rows : List DegreeRow) : Type 0 where
  pub count : length rows ≡ upto
  pub each : (i : ℕ) (none : DegreeRow) → i < upto → IsRow l budget (i + 1) (get_or rows i none)

-- the row is optimal, with this period
abbrev pub IsOptimal : DegreeRow → ℕ → Type 0
IsOptimal row period = (row.verdict ≡ Optimal) × (row.period ≡ Some period)

-- less period for each carrier, compared by products; where they are equal, the smaller degree
abbrev pub IsBefore : DegreeRow → ℕ → DegreeRow → ℕ → Type 0
IsBefore row period other other_period =
    (period * other.degree < other_period * row.degree) ⊎ ((period * other.degree ≡ other_period * row.degree) × (row.degree ≤ other.degree))

-- an optimal row, before which no other optimal one is
pub record IsBestRow (rows : List DegreeRow) (row : DegreeRow) : Type 0 where
  pub there : Contains rows row
  pub period : ℕ
  pub optimal : IsOptimal row period
  pub first : (other : DegreeRow) (other_period : ℕ) → Contains rows other → IsOptimal other other_period
      → IsBefore row period other other_period

-- no row is optimal
abbrev pub NoneOptimal : List DegreeRow → Type 0
NoneOptimal rows = (row : DegreeRow) → Contains rows row → row.verdict ≡ Optimal → ⊥

-- the degree of the best row; none where no row is optimal
abbrev pub IsBest : List DegreeRow → Option ℕ → Type 0
IsBest rows (Some degree) = (row : DegreeRow) × IsBestRow rows row × (row.degree ≡ degree)
IsBest rows None = NoneOptimal rows

-- the sweep of the line over the degrees from 1 to upto, each under the budget
pub record IsSwept (l : LineData) (upto budget : ℕ) (swept : Swept) : Type 0 where
  pub rows : AreRows l upto budget swept.rows
  pub best : IsBest swept.rows swept.best
