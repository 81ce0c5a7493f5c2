-- The text of a sweep: how many degrees, a line for each of them, the best of them, and whether it is settled.
use Rattle.std.specs.Prelude.{ℕ, ◌==◌, List, ◌++◌, codes, decimal, length, flat_map, Bool, true, false, Option, Some, None}
use Rattle.std.specs.List.{find}
use Rattle.std.specs.Option.{option_and_then}
use Rattle.answer_text.specs.Words.{verdict_text}
use Rattle.text_writing.specs.Texts.{end}
use Rattle.degree_sweep.specs.declared.rows.DegreeRow.{DegreeRow}
use Rattle.degree_sweep.specs.declared.swept.Swept.{Swept}
use Rattle.degree_sweep.specs.Claims.{is_settled}

abbrev pub period_text : Option ℕ → List ℕ
period_text None = codes "none"
period_text (Some period) = decimal period

-- whether a least period is known
abbrev pub known_text : DegreeRow → List ℕ
known_text row = codes "degree " ++ (decimal row.degree ++ (codes " verdict " ++ verdict_text row.verdict))

-- how far the search came
abbrev pub searched_text : DegreeRow → List ℕ
searched_text row = codes " bound " ++ (decimal row.bound ++ (codes " splits " ++ decimal row.splits))

abbrev pub row_text : DegreeRow → List ℕ
row_text row = known_text row ++ (searched_text row ++ (codes " period " ++ (period_text row.period ++ end)))

-- the period of the row of a degree
abbrev pub period_in : List DegreeRow → ℕ → Option ℕ
period_in rows degree = option_and_then (λ (row : DegreeRow). row.period) (find (λ (row : DegreeRow). row.degree == degree) rows)

abbrev pub best_text : List DegreeRow → Option ℕ → List ℕ
best_text rows None = codes "none"
best_text rows (Some degree) = codes "degree " ++ (decimal degree ++ (codes " period " ++ period_text (period_in rows degree)))

abbrev pub settled_text : Bool → List ℕ
settled_text true = codes "yes"
settled_text false = codes "no"

abbrev pub sweep_text : Swept → List ℕ
sweep_text swept =
    codes "sweep "
    ++ (decimal (length swept.rows)
    ++ (end
    ++ (flat_map row_text swept.rows
    ++ (codes "best "
    ++ (best_text swept.rows swept.best
    ++ (codes "\nsettled "
    ++ (settled_text (is_settled swept.rows)
    ++ end)))))))
