-- Where a dwell lies in its window, from the least to the greatest ticks of its stage.
use Rattle.std.specs.Prelude.{
  ℕ,
  ◌-◌,
  ◌*◌,
  ◌/◌,
  ◌==◌,
  ◌++◌,
  if◌then◌else◌,
  nat_le,
  min,
  Bool,
  true,
  false,
  List,
  [],
  codes,
  decimal,
  Option,
  Some,
  None,
}
use Rattle.markup.specs.declared.words.Key.TheVariants as keys
use Rattle.markup.specs.Forms.{Form, having, holding}
use Rattle.timeway.specs.Shapes.{straight, carrier_class}
use Rattle.report_dwells.specs.Cells.{drawing}

-- the dwell is the greatest; where there is none it never is
abbrev pub is_greatest : ℕ → Option ℕ → Bool
is_greatest ticks None = false
is_greatest ticks (Some most) = ticks == most

-- the ends at which a dwell is, as the class of its row: the least, the greatest
abbrev pub end_class : Bool → Bool → List ℕ
end_class true true = codes "least greatest"
end_class true false = codes "least"
end_class false true = codes "greatest"
end_class false false = codes "between"

-- the same in words
abbrev pub end_words : Bool → Bool → List ℕ
end_words true true = codes " at its least and at its greatest"
end_words true false = codes " at its least"
end_words false true = codes " at its greatest"
end_words false false = []

-- the ticks of a dwell, and at which ends of its window it is
abbrev pub dwell_words : ℕ → ℕ → Option ℕ → List ℕ
dwell_words ticks least most = decimal ticks ++ end_words (ticks == least) (is_greatest ticks most)

-- how far in its window a dwell lies, in hundredths: all of a window that has one tick alone
abbrev pub share : ℕ → ℕ → ℕ → ℕ
share ticks least most = if nat_le most least then 100 else (min ticks most - least) * 100 / (most - least)

-- the mark of an end of a window
abbrev pub end_mark : ℕ → Form
end_mark x = having (straight x 0 x 10) keys.Class (codes "end")

-- the bar of a carrier's dwell, from the least to the dwell
abbrev pub dwell_bar : ℕ → ℕ → Form
dwell_bar c hundredths = having (straight 0 5 hundredths 5) keys.Class (carrier_class (codes "bar c") c)

-- a drawing with the greatest dwell and the bar behind what it has; nothing is put there where there is no greatest
abbrev pub within : Form → ℕ → ℕ → ℕ → Option ℕ → Form
within start c ticks least None = start
within start c ticks least (Some most) = holding (holding start (end_mark 100)) (dwell_bar c (share ticks least most))

-- a window and the dwell in it; of a window without a greatest dwell the least alone is drawn
abbrev pub window : ℕ → ℕ → ℕ → Option ℕ → Form
window c ticks least most =
    within (holding (drawing (codes "window") 104 (codes "-2 0 104 10")) (end_mark 0)) c ticks least most
