-- A closed walk of constraints as a table: a row for each constraint, and one for the sums.
use Rattle.std.specs.Prelude.{ℕ, ℤ, neg_ℤ, List, codes, map}
use Rattle.std.specs.Fmt.{signed_decimal}
use Rattle.hoist_base.specs.LineData.{LineData}
use Rattle.choice_tree.specs.declared.question.Decision.{Decision}
use Rattle.choice_tree.specs.declared.constraint.Constraint.{Constraint}
use Rattle.path_constraints.specs.Constraints.{arc_of}
use Rattle.path_constraints.specs.Proves.{sum_w, sum_q}
use Rattle.cycle_walk.specs.declared.sums.Sums.{Sums}
use Rattle.markup.specs.declared.words.Tag.{Tag}
use Rattle.markup.specs.declared.words.Tag.TheVariants as tags
use Rattle.markup.specs.declared.words.Key.TheVariants as keys
use Rattle.markup.specs.Forms.{Form, fresh, having, saying, holding, holding_all}
use Rattle.walk_words.specs.Steps.{step_text}
use Rattle.walk_words.specs.Periods.{sums_text}

-- words, and behind them ticks and periods
abbrev pub row : Tag → List ℕ → List ℕ → List ℕ → Form
row tag words ticks periods =
    holding
    (holding (holding (fresh tags.Row) (saying (fresh tag) words)) (saying (fresh tag) ticks))
    (saying (fresh tag) periods)

-- words, how many ticks at least lie between what they speak of, and how many periods later the second of it is
abbrev pub weighed_row : List ℕ → ℤ → ℤ → Form
weighed_row words w q = row tags.Cell words (signed_decimal w) (signed_decimal (neg_ℤ q))

-- a constraint of the path, with its least distance in ticks
abbrev pub step_row : LineData → List Decision → Constraint → Form
step_row l path t = weighed_row (step_text l path t) (arc_of l path t).w (arc_of l path t).q

-- the ticks and periods of all constraints of a walk together
abbrev pub sums_of : LineData → List Decision → List Constraint → Sums
sums_of l path walk = record { w = sum_w l path walk; q = sum_q l path walk }

-- the sums, and the periods that follow
abbrev pub sums_row : Sums → Form
sums_row s = weighed_row (sums_text s) s.w s.q

-- what the columns are
abbrev pub head_row : Form
head_row = row tags.HeadCell (codes "constraint") (codes "ticks") (codes "periods")

-- a table with these columns and no row yet
abbrev pub blank_table : Form
blank_table = holding (having (fresh tags.Table) keys.Class (codes "walk")) head_row

-- a closed walk of constraints of the path
unfoldable pub walk_table : LineData → List Decision → List Constraint → Form
walk_table l path walk =
    holding (holding_all blank_table (map (step_row l path) walk)) (sums_row (sums_of l path walk))
