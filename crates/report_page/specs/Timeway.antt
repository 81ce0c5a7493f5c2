-- The section of the time-way diagram.
use Rattle.std.specs.Prelude.{ℕ, List, ◌++◌, codes, decimal, map}
use Rattle.std.specs.List.{range_with_len}
use Rattle.hoist_base.specs.LineData.{LineData}
use Rattle.line_model.specs.Timetable.{Timetable}
use Rattle.markup.specs.declared.words.Tag.TheVariants as tags
use Rattle.markup.specs.declared.words.Key.TheVariants as keys
use Rattle.markup.specs.Forms.{Form, fresh, having, saying, holding, holding_all}
use Rattle.timeway.specs.Shapes.{straight, carrier_class}
use Rattle.timeway.specs.Diagram.{diagram}
use Rattle.report_page.specs.Parts.{said}
use Rattle.report_page.specs.Texts.{reading_words}

-- a short line that looks as shapes of a class do
abbrev pub swatch : List ℕ → Form
swatch class =
    holding
    (having (having (having (fresh tags.Svg) keys.Class (codes "swatch")) keys.Width (decimal 32)) keys.Height (decimal 12))
    (holding (having (fresh tags.Group) keys.Class class) (straight 0 6 32 6))

-- what shapes of a class show
abbrev pub key : List ℕ → List ℕ → Form
key class words = saying (holding (having (fresh tags.Span) keys.Class (codes "key")) (swatch class)) words

-- the colour of a carrier
abbrev pub carrier_key : ℕ → Form
carrier_key c = key (carrier_class (codes "bar c") c) (codes " carrier " ++ decimal c)

-- the legend: the way of a hoist, and the carriers of a period
unfoldable pub legend : LineData → Form
legend l =
    holding_all
    (holding (having (fresh tags.Paragraph) keys.Class (codes "legend")) (key (codes "way") (codes " way of a hoist")))
    (map carrier_key (range_with_len 0 l.degree))

-- the diagram in a box that it may be wider than
unfoldable pub wide_box : LineData → Timetable → Form
wide_box l p = holding (having (fresh tags.Division) keys.Class (codes "wide")) (diagram l p)

-- what the diagram is and how it is read
unfoldable pub opening : Form
opening =
    holding
    (holding (having (fresh tags.Division) keys.Class (codes "timeway")) (said tags.Subheading (codes "Time-way diagram")))
    (said tags.Paragraph reading_words)

-- the section: a heading, how the diagram is read, the legend, and the diagram
unfoldable pub timeway : LineData → Timetable → Form
timeway l p = holding (holding opening (legend l)) (wide_box l p)
