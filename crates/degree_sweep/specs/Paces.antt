-- How often a carrier enters by a row, and which of two is quicker.
use Rattle.std.specs.Prelude.{◌≡◌, ℕ, ◌+◌, ◌*◌, ◌<◌, List, length, get_or, Bool, nat_lt, if◌then◌else◌, Option, Some, None}
use Rattle.std.specs.List.{Contains}
use Rattle.answer_text.specs.declared.answer.Verdict.{Verdict}
use Rattle.answer_text.specs.declared.answer.Verdict.TheVariants.{Optimal, Nothing, Unfinished}
use Rattle.degree_sweep.specs.declared.best.Pace.{Pace}
use Rattle.degree_sweep.specs.declared.rows.DegreeRow.{DegreeRow}

-- an optimal row has a period
abbrev pub HavePeriods : List DegreeRow → Type 0
HavePeriods rows = (row : DegreeRow) → Contains rows row → row.verdict ≡ Optimal → (period : ℕ) × (row.period ≡ Some period)

-- the rows have the degrees 1, 2, 3 and so on
abbrev pub HaveDegrees : List DegreeRow → Type 0
HaveDegrees rows = (i : ℕ) (none : DegreeRow) → i < length rows → (get_or rows i none).degree ≡ i + 1

abbrev pub pace_by : Verdict → Option ℕ → ℕ → Option Pace
pace_by Optimal (Some period) degree = Some (record { degree = degree; period = period })
pace_by Optimal None degree = None
pace_by Nothing period degree = None
pace_by Unfinished period degree = None

-- that of an optimal row
abbrev pub pace_of : DegreeRow → Option Pace
pace_of row = pace_by row.verdict row.period row.degree

-- less period for each carrier
abbrev pub is_less : Pace → Pace → Bool
is_less a b = nat_lt (a.period * b.degree) (b.period * a.degree)

-- the second, where it has less period for each carrier, else the first
abbrev pub quicker : Option Pace → Option Pace → Option Pace
quicker None second = second
quicker (Some a) None = Some a
quicker (Some a) (Some b) = if is_less b a then Some b else Some a
