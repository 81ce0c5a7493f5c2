-- The tree that the lines of a text say, in preorder.
use Rattle.std.specs.Prelude.{ℕ, ◌+◌, List, [], ◌∷◌, ◌++◌, length, Bool, Some, None, Result, Ok, slice_set, replicate}
use Rattle.choice_tree.specs.declared.question.Question.TheVariants as questions
use Rattle.choice_tree.specs.declared.node.Node.{Node}
use Rattle.choice_tree.specs.declared.node.Node.TheVariants.{Split, Closed, Stuck, Solved, Left}
use Rattle.choice_tree.specs.Nodes.{numbers_from}
use Rattle.answer_read.specs.declared.row.Row.{Row}
use Rattle.answer_read.specs.declared.row.Row.TheVariants as rows
use Rattle.field_reading.specs.Reading.{◌>>=◌, forest_at}
use Rattle.answer_read.specs.Lines.{row_at}

-- how many children a line announces
abbrev pub arity : Row → ℕ
arity (rows.Choose v children) = children
arity (rows.TankOrder a b q) = 2
arity (rows.HoistOrder a b q) = 2
arity (rows.Assign m children) = children
arity (rows.ClosedLow low high) = 0
arity (rows.ClosedHigh high) = 0
arity (rows.Stuck m) = 0
arity (rows.Solved low) = 0
arity (rows.Left low) = 0

-- the node of a line, where its children get the numbers from first on
abbrev pub node_of : Row → ℕ → Node
node_of (rows.Choose v children) first = Split (questions.Choose v) (numbers_from first children)
node_of (rows.TankOrder a b q) first = Split (questions.TankOrder a b q) (numbers_from first 2)
node_of (rows.HoistOrder a b q) first = Split (questions.HoistOrder a b q) (numbers_from first 2)
node_of (rows.Assign m children) first = Split (questions.Assign m) (numbers_from first children)
node_of (rows.ClosedLow low high) first = Closed (Some low) high
node_of (rows.ClosedHigh high) first = Closed None (Some high)
node_of (rows.Stuck m) first = Stuck m
node_of (rows.Solved low) first = Solved low
node_of (rows.Left low) first = Left low

-- node i becomes that of the line; its children are new nodes behind all others
abbrev pub placed : List Node → ℕ → Row → List Node
placed nodes i row = slice_set nodes i (node_of row (length nodes)) ++ replicate (arity row) (Left (Some []))

-- each line is that of the node that waits first, and its children wait before those that waited already
unfoldable pub grown : List Row → List ℕ → List Node → List Node
grown [] waiting nodes = nodes
grown (row ∷ rows) [] nodes = nodes
grown (row ∷ rows) (i ∷ waiting) nodes = grown rows (numbers_from (length nodes) (arity row) ++ waiting) (placed nodes i row)

abbrev pub tree_of : List Row → List Node
tree_of rows = grown rows (0 ∷ []) (Left None ∷ [])

unfoldable pub rows_at : Bool → List ℕ → Result (List Row × List ℕ) ℕ
rows_at single bytes = forest_at arity (row_at single) (length bytes + 1) 1 bytes

unfoldable pub tree_at : Bool → List ℕ → Result (List Node × List ℕ) ℕ
tree_at single bytes = rows_at single bytes >>= λ x. Ok (tree_of x.0, x.1)
