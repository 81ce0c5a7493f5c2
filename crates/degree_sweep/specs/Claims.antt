-- What a sweep shows of all legal timetables.
use Rattle.std.specs.Prelude.{◌≡◌, ℕ, ◌*◌, ◌≤◌, List, Bool, true, false, Some}
use Rattle.std.specs.List.{list_all, Contains}
use Rattle.hoist_base.specs.LineData.{LineData}
use Rattle.line_model.specs.Timetable.{Timetable}
use Rattle.line_model.specs.Legal.{IsLegal, NoneBelow}
use Rattle.answer_text.specs.declared.answer.Verdict.{Verdict}
use Rattle.answer_text.specs.declared.answer.Verdict.TheVariants.{Optimal, Nothing, Unfinished}
use Rattle.degree_sweep.specs.declared.rows.DegreeRow.{DegreeRow}
use Rattle.degree_sweep.specs.declared.swept.Swept.{Swept}
use Rattle.degree_sweep.specs.Sweep.{with_degree}

-- no legal timetable of a row's degree has a period below the row's bound
abbrev pub AreBounds : LineData → List DegreeRow → Type 0
AreBounds l rows = (row : DegreeRow) → Contains rows row → NoneBelow (with_degree l row.degree) row.bound

-- whether it is known which timetables there are
abbrev pub is_known : Verdict → Bool
is_known Optimal = true
is_known Nothing = true
is_known Unfinished = false

-- whether no row is open
abbrev pub is_settled : List DegreeRow → Bool
is_settled rows = list_all (λ (row : DegreeRow). is_known row.verdict) rows

-- no legal timetable of a degree up to upto, with a period that the line allows, has less period for each carrier than
-- the best of a settled sweep
abbrev pub IsLeastSwept : LineData → ℕ → Swept → Type 0
IsLeastSwept l upto swept =
    (best period : ℕ) (row : DegreeRow) → is_settled swept.rows ≡ true → swept.best ≡ Some best
    → Contains swept.rows row → row.degree ≡ best → row.period ≡ Some period
    → (degree : ℕ) (t : Timetable) → 1 ≤ degree → degree ≤ upto → IsLegal (with_degree l degree) t
    → t.period ≤ l.max_period
    → period * degree ≤ t.period * best
