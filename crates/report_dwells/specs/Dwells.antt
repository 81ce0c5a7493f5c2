-- The dwells of a timetable beside their windows, as a section of a report.
use Rattle.std.specs.Prelude.{ℕ, ◌==◌, Option, codes, decimal, map}
use Rattle.std.specs.List.{range_with_len}
use Rattle.hoist_base.specs.LineData.{LineData, stage, tank, visit_at, visit_count}
use Rattle.line_model.specs.Timetable.{Timetable}
use Rattle.timetable.specs.Faults.{least_dwell}
use Rattle.markup.specs.declared.words.Tag.TheVariants as tags
use Rattle.markup.specs.declared.words.Key.TheVariants as keys
use Rattle.markup.specs.Forms.{Form, fresh, having, saying, holding, holding_all}
use Rattle.timeway.specs.Shapes.{carrier_class, rest_ticks, greatest_text}
use Rattle.report_dwells.specs.Cells.{section, headed, cell, number_cell}
use Rattle.report_dwells.specs.Windows.{is_greatest, end_class, dwell_words, window}

-- the cell of a carrier, with its class
abbrev pub carrier_cell : ℕ → Form
carrier_cell c = saying (having (fresh tags.Cell) keys.Class (carrier_class (codes "number c") c)) (decimal c)

-- a row with the carrier, the stage and the tank of a visit
abbrev pub place_row : LineData → Timetable → ℕ → ℕ → Form
place_row l p c k =
    holding (holding (holding (fresh tags.Row) (carrier_cell c)) (number_cell k)) (cell (tank l (p.tank c k)).name)

-- the cell of a dwell, in which the ends of its window that it is at are named
abbrev pub dwell_cell : ℕ → ℕ → Option ℕ → Form
dwell_cell ticks least most = cell (dwell_words ticks least most)

-- a row with the least and the greatest dwell behind what it has, and the window as a drawing
abbrev pub windowed : Form → ℕ → ℕ → ℕ → Option ℕ → Form
windowed row c ticks least most =
    holding
    (holding (holding row (number_cell least)) (cell (greatest_text most)))
    (holding (fresh tags.Cell) (window c ticks least most))

-- a row of a class with a dwell and its window
abbrev pub marked : Form → ℕ → ℕ → ℕ → Option ℕ → Form
marked row c ticks least most =
    windowed
    (holding (having row keys.Class (end_class (ticks == least) (is_greatest ticks most)))
    (dwell_cell ticks least most))
    c ticks least most

-- the row of a visit
abbrev pub visit_row : LineData → Timetable → ℕ → ℕ → Form
visit_row l p c k = marked (place_row l p c k) c (rest_ticks l p c k) (least_dwell l k) (stage l k).max

-- a row with the names of the columns
abbrev pub with_heads : Form → Form
with_heads row =
    headed
    (headed
    (headed
    (headed (headed (headed (headed row (codes "carrier")) (codes "stage")) (codes "tank")) (codes "dwell"))
    (codes "least"))
    (codes "greatest"))
    (codes "window")

-- the row of the visit with a number
abbrev pub row_at : LineData → Timetable → ℕ → Form
row_at l p i = visit_row l p (visit_at l i).carrier (visit_at l i).stage

-- the names of the columns, and a row for each visit, by carrier and stage
abbrev pub table : LineData → Timetable → Form
table l p = holding_all (holding (fresh tags.Table) (with_heads (fresh tags.Row)))
    (map (row_at l p) (range_with_len 0 (visit_count l)))

-- the dwells in ticks beside their windows
abbrev pub dwells : LineData → Timetable → Form
dwells l p = holding (section (codes "dwells") (codes "Dwells")) (table l p)
