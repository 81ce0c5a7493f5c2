-- Nodes and their lines.
use Rattle.std.proofs.Common.{◌≡◌, ℕ, List, ◌++◌, length, codes, decimal, Bool, Some, None, refl, sym, ap, arith}
use Rattle.choice_tree.specs.declared.question.Question.TheVariants as questions
use Rattle.choice_tree.specs.declared.node.Node.{Node}
use Rattle.choice_tree.specs.declared.node.Node.TheVariants.{Split, Closed, Stuck, Solved, Left}
use Rattle.choice_tree.specs.Nodes.{children_of, numbers_from}
use Rattle.choice_tree.proofs.NodeLemmas.{length-numbers_from}
use Rattle.text_writing.specs.Texts.{end, pair_text}
use Rattle.answer_text.specs.Nodes.{node_text, IsNodeText}
use Rattle.answer_read.specs.declared.row.Row.{Row}
use Rattle.answer_read.specs.declared.row.Row.TheVariants as rows
use Rattle.answer_read.specs.Trees.{arity, node_of}
use Rattle.answer_read.proofs.Rows.{row_text, IsRow}

-- the line of a node
abbrev pub row_of : Node → Row
row_of (Split (questions.Choose v) children) = rows.Choose v (length children)
row_of (Split (questions.TankOrder a b q) children) = rows.TankOrder a b q
row_of (Split (questions.HoistOrder a b q) children) = rows.HoistOrder a b q
row_of (Split (questions.Assign m) children) = rows.Assign m (length children)
row_of (Closed (Some low) high) = rows.ClosedLow low high
row_of (Closed None (Some high)) = rows.ClosedHigh high
row_of (Closed None None) = rows.Left None
row_of (Stuck m) = rows.Stuck m
row_of (Solved low) = rows.Solved low
row_of (Left low) = rows.Left low

pub node_text_is : (single : Bool) (n : Node) → IsNodeText single n → node_text single n ≡ row_text single (row_of n)
node_text_is single (Split (questions.Choose v) children) f = refl
node_text_is single (Split (questions.TankOrder a b q) children) f = refl
node_text_is single (Split (questions.HoistOrder a b q) children) f = refl
node_text_is single (Split (questions.Assign m) children) f = refl
node_text_is single (Closed (Some low) high) f = refl
node_text_is single (Closed None (Some high)) f = refl
node_text_is single (Closed None None) f = absurd f
node_text_is single (Stuck m) f = refl
node_text_is single (Solved low) f = refl
node_text_is single (Left low) f = refl

pub row_of_fits : (single : Bool) (n : Node) → IsNodeText single n → IsRow single (row_of n)
row_of_fits single (Split (questions.Choose v) children) f = f
row_of_fits single (Split (questions.TankOrder a b q) children) f = (f.0, f.1, f.2)
row_of_fits single (Split (questions.HoistOrder a b q) children) f = (f.0, f.1, f.2)
row_of_fits single (Split (questions.Assign m) children) f = f
row_of_fits single (Closed (Some low) high) f = f
row_of_fits single (Closed None (Some high)) f = f
row_of_fits single (Closed None None) f = absurd f
row_of_fits single (Stuck m) f = f
row_of_fits single (Solved low) f = f
row_of_fits single (Left low) f = f

pub arity_is : (single : Bool) (n : Node) → IsNodeText single n → arity (row_of n) ≡ length (children_of n)
arity_is single (Split (questions.Choose v) children) f = refl
arity_is single (Split (questions.TankOrder a b q) children) f = sym f.3
arity_is single (Split (questions.HoistOrder a b q) children) f = sym f.3
arity_is single (Split (questions.Assign m) children) f = refl
arity_is single (Closed (Some low) high) f = refl
arity_is single (Closed None (Some high)) f = refl
arity_is single (Closed None None) f = refl
arity_is single (Stuck m) f = refl
arity_is single (Solved low) f = refl
arity_is single (Left low) f = refl

-- a node is told by its line and its children
pub node_again : (single : Bool) (n : Node) (first : ℕ) → IsNodeText single n
    → children_of n ≡ numbers_from first (arity (row_of n))
    → node_of (row_of n) first ≡ n
node_again single (Split (questions.Choose v) children) first f e = ap (λ (cs : List ℕ). Split (questions.Choose v) cs) (sym e)
node_again single (Split (questions.TankOrder a b q) children) first f e = ap (λ (cs : List ℕ). Split (questions.TankOrder a b q) cs) (sym e)
node_again single (Split (questions.HoistOrder a b q) children) first f e = ap (λ (cs : List ℕ). Split (questions.HoistOrder a b q) cs) (sym e)
node_again single (Split (questions.Assign m) children) first f e = ap (λ (cs : List ℕ). Split (questions.Assign m) cs) (sym e)
node_again single (Closed (Some low) high) first f e = refl
node_again single (Closed None (Some high)) first f e = refl
node_again single (Closed None None) first f e = absurd f
node_again single (Stuck m) first f e = refl
node_again single (Solved low) first f e = refl
node_again single (Left low) first f e = refl

pub children_are : (r : Row) (first : ℕ) → children_of (node_of r first) ≡ numbers_from first (arity r)
children_are (rows.Choose v m) first = refl
children_are (rows.TankOrder a b q) first = refl
children_are (rows.HoistOrder a b q) first = refl
children_are (rows.Assign m n) first = refl
children_are (rows.ClosedLow low high) first = refl
children_are (rows.ClosedHigh high) first = refl
children_are (rows.Stuck m) first = refl
children_are (rows.Solved low) first = refl
children_are (rows.Left low) first = refl

pub node_of_fits : (single : Bool) (r : Row) (first : ℕ) → IsRow single r → IsNodeText single (node_of r first)
node_of_fits single (rows.Choose v m) first f = (f.0, f.1, omega (arith, f.2, length-numbers_from first m))
node_of_fits single (rows.TankOrder a b q) first f = (f.0, f.1, f.2, length-numbers_from first 2)
node_of_fits single (rows.HoistOrder a b q) first f = (f.0, f.1, f.2, length-numbers_from first 2)
node_of_fits single (rows.Assign m n) first f = (f.0, omega (arith, f.1, length-numbers_from first n))
node_of_fits single (rows.ClosedLow low high) first f = f
node_of_fits single (rows.ClosedHigh high) first f = f
node_of_fits single (rows.Stuck m) first f = f
node_of_fits single (rows.Solved low) first f = f
node_of_fits single (rows.Left low) first f = f

-- the node of a line has the line's text
pub line_text_is : (single : Bool) (r : Row) (first : ℕ) → node_text single (node_of r first) ≡ row_text single r
line_text_is single (rows.Choose v m) first =
    ap (λ (n : ℕ). codes "split choose " ++ (pair_text v.carrier v.stage ++ (codes " " ++ (decimal n ++ end)))) (length-numbers_from first m)
line_text_is single (rows.TankOrder a b q) first = refl
line_text_is single (rows.HoistOrder a b q) first = refl
line_text_is single (rows.Assign m n) first =
    ap (λ (k : ℕ). codes "split assign " ++ (pair_text m.carrier m.step ++ (codes " " ++ (decimal k ++ end)))) (length-numbers_from first n)
line_text_is single (rows.ClosedLow low high) first = refl
line_text_is single (rows.ClosedHigh high) first = refl
line_text_is single (rows.Stuck m) first = refl
line_text_is single (rows.Solved low) first = refl
line_text_is single (rows.Left low) first = refl
