-- Sections of a report, and the cells of its tables.
use Rattle.std.specs.Prelude.{ℕ, List, codes, decimal}
use Rattle.markup.specs.declared.words.Tag.TheVariants as tags
use Rattle.markup.specs.declared.words.Key.TheVariants as keys
use Rattle.markup.specs.Forms.{Form, fresh, having, saying, holding}

-- a section of a class with its heading
abbrev pub section : List ℕ → List ℕ → Form
section class title = holding (having (fresh tags.Division) keys.Class class) (saying (fresh tags.Subheading) title)

-- a cell that heads a column or a row
abbrev pub heading : List ℕ → Form
heading words = saying (fresh tags.HeadCell) words

-- a row with a heading more
abbrev pub headed : Form → List ℕ → Form
headed row words = holding row (heading words)

-- a cell with words
abbrev pub cell : List ℕ → Form
cell words = saying (fresh tags.Cell) words

-- a cell with a number
abbrev pub number_cell : ℕ → Form
number_cell n = saying (having (fresh tags.Cell) keys.Class (codes "number")) (decimal n)

-- a drawing of a class that is so wide and 10 high; its sides are numbers of its own, which are stretched to its size
abbrev pub drawing : List ℕ → ℕ → List ℕ → Form
drawing class width sides =
    having
    (having
    (having (having (having (fresh tags.Svg) keys.Class class) keys.Width (decimal width)) keys.Height (codes "10"))
    keys.ViewBox sides)
    keys.Scaling (codes "none")
