-- What the hoists do with the ticks of a period, as a section of a report.
use Rattle.std.specs.Prelude.{ℕ, ◌+◌, List, ◌++◌, codes, decimal, map}
use Rattle.std.specs.List.{range_with_len}
use Rattle.hoist_base.specs.LineData.{LineData}
use Rattle.line_model.specs.Timetable.{Timetable}
use Rattle.markup.specs.declared.words.Tag.TheVariants as tags
use Rattle.markup.specs.declared.words.Key.TheVariants as keys
use Rattle.markup.specs.Forms.{Form, fresh, having, holding, holding_all}
use Rattle.timeway.specs.Shapes.{straight}
use Rattle.report_dwells.specs.Cells.{section, headed, cell, number_cell, drawing}
use Rattle.report_shares.specs.Ticks.{carrying, driving, standing}
use Rattle.report_shares.specs.Figures.{share_words}

-- the part of a bar from one tick to another, of a class
abbrev pub part : List ℕ → ℕ → ℕ → Form
part class from to = having (straight from 5 to 5) keys.Class class

-- the sides of a bar that has the ticks of a period
abbrev pub bar_sides : ℕ → List ℕ
bar_sides period = codes "0 0 " ++ (decimal period ++ codes " 10")

-- a bar of the ticks of a period: those of carrying, then those of driving, then those of standing
abbrev pub share_bar : ℕ → ℕ → ℕ → ℕ → Form
share_bar carried driven stood period =
    holding
    (holding
    (holding (drawing (codes "share") 200 (bar_sides period)) (part (codes "carrying") 0 carried))
    (part (codes "driving") carried (carried + driven)))
    (part (codes "standing") (carried + driven) (carried + driven + stood))

-- a row with the ticks of one kind and their part of the period behind what it has
abbrev pub with_share : Form → ℕ → ℕ → Form
with_share row ticks period = holding row (cell (share_words ticks period))

-- a hoist, its ticks of each kind with their part of the period, and the bar
abbrev pub share_row : ℕ → ℕ → ℕ → ℕ → ℕ → Form
share_row h carried driven stood period =
    holding
    (with_share
    (with_share (with_share (holding (fresh tags.Row) (number_cell h)) carried period) driven period)
    stood period)
    (holding (fresh tags.Cell) (share_bar carried driven stood period))

-- the row of a hoist
abbrev pub hoist_row : LineData → Timetable → ℕ → Form
hoist_row l p h = share_row h (carrying l p h) (driving l p h) (standing l p h) p.period

-- a row with the names of the columns
abbrev pub with_heads : Form → Form
with_heads row =
    headed
    (headed
    (headed (headed (headed row (codes "hoist")) (codes "carrying")) (codes "driving without a load"))
    (codes "standing"))
    (codes "share")

-- the names of the columns, and a row for each hoist
abbrev pub table : LineData → Timetable → Form
table l p =
    holding_all (holding (fresh tags.Table) (with_heads (fresh tags.Row)))
    (map (hoist_row l p) (range_with_len 0 l.hoists))

-- the ticks of a period at which each hoist carries, drives without a load and stands
abbrev pub shares : LineData → Timetable → Form
shares l p = holding (section (codes "shares") (codes "Hoists")) (table l p)
