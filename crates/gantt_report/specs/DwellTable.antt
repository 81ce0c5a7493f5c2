-- The dwell table of a timetable: a line for each visit of a period, with its dwell and the window of its stage.
use Rattle.std.specs.Prelude.{ℕ, List, ◌++◌, codes, decimal, length, flat_map, Option, Some, None}
use Rattle.std.specs.Fmt.{signed_decimal}
use Rattle.std.specs.List.{range_with_len}
use Rattle.hoist_base.specs.LineData.{LineData, stage, tank}
use Rattle.line_model.specs.Timetable.{Timetable}
use Rattle.timetable.specs.Faults.{dwell, least_dwell}
use Rattle.gantt_report.specs.Places.{right_in}

-- the greatest dwell, where there is one
abbrev pub greatest_text : Option ℕ → List ℕ
greatest_text None = codes "-"
greatest_text (Some most) = decimal most

-- a number or a dash that stands right in 6 places, after a blank
abbrev pub column : List ℕ → List ℕ
column word = codes " " ++ right_in 6 word

-- the carrier and the stage of a visit
abbrev pub visit_columns : ℕ → ℕ → List ℕ
visit_columns c k = right_in 4 (decimal c) ++ (codes " " ++ right_in 3 (decimal k))

-- the least and the greatest dwell of a stage
abbrev pub window_columns : LineData → ℕ → List ℕ
window_columns l k = column (decimal (least_dwell l k)) ++ column (greatest_text (stage l k).max)

-- a visit, the ticks of its dwell, the window of its stage, and the name of the tank that the carrier uses
abbrev pub visit_line : LineData → Timetable → ℕ → ℕ → List ℕ
visit_line l p c k =
    visit_columns c k
    ++ (column (signed_decimal (dwell l p c k))
    ++ (window_columns l k
    ++ (codes " "
    ++ ((tank l (p.tank c k)).name
    ++ codes "\n"))))

-- the visits of a carrier, by stage
abbrev pub carrier_lines : LineData → Timetable → ℕ → List ℕ
carrier_lines l p c = flat_map (visit_line l p c) (range_with_len 0 (length l.stages))

abbrev pub dwell_text : LineData → Timetable → List ℕ
dwell_text l p = codes "dwell\n" ++ flat_map (carrier_lines l p) (range_with_len 0 l.degree)
