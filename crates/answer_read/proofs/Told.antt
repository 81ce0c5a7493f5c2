-- What a tree says is told by its lines.
use Rattle.std.proofs.Common.{◌≡◌, ℕ, ◌<◌, List, [], ◌∷◌, length, map, Bool, Some, None, All, refl, sym, ap, ◌∙◌}
use Rattle.std.specs.Prelude.{replicate}
use Rattle.std.proofs.lemmas.List.Elements.{All-head, All-tail}
use Rattle.choice_tree.specs.declared.question.Question.{Question}
use Rattle.choice_tree.specs.declared.question.Question.TheVariants as questions
use Rattle.choice_tree.specs.declared.node.Node.{Node}
use Rattle.choice_tree.specs.declared.node.Node.TheVariants.{Split, Closed, Stuck, Solved, Left}
use Rattle.choice_tree.specs.Nodes.{node_at, numbers_from}
use Rattle.choice_tree.specs.Trees.{IsTree, preorder}
use Rattle.choice_tree.proofs.NodeLemmas.{length-numbers_from}
use Rattle.answer_text.specs.Nodes.{IsNodeText}
use Rattle.answer_text.proofs.OrderLemmas.{preorder_there}
use Rattle.answer_read.specs.declared.row.Row.{Row}
use Rattle.answer_read.specs.Trees.{node_of}
use Rattle.answer_read.specs.Same.{unnumbered, said}
use Rattle.answer_read.proofs.NodeRows.{row_of}
use Rattle.answer_read.proofs.Orders.{HaveLines, rows_in, lines_of}

-- what the node of a line says
abbrev told : Row → Node
told row = unnumbered (node_of row 0)

zeros : (question : Question) (n m : ℕ) → n ≡ m
    → Split question (replicate n 0) ≡ Split question (replicate (length (numbers_from 0 m)) 0)
zeros question n m e = ap (λ (k : ℕ). Split question (replicate k 0)) (e ∙ sym (length-numbers_from 0 m))

node_told : (single : Bool) (n : Node) → IsNodeText single n → unnumbered n ≡ told (row_of n)
node_told single (Split (questions.Choose v) children) f = zeros (questions.Choose v) (length children) (length children) refl
node_told single (Split (questions.TankOrder a b q) children) f = zeros (questions.TankOrder a b q) (length children) 2 f.3
node_told single (Split (questions.HoistOrder a b q) children) f = zeros (questions.HoistOrder a b q) (length children) 2 f.3
node_told single (Split (questions.Assign m) children) f = zeros (questions.Assign m) (length children) (length children) refl
node_told single (Closed (Some low) high) f = refl
node_told single (Closed None (Some high)) f = refl
node_told single (Closed None None) f = absurd f
node_told single (Stuck m) f = refl
node_told single (Solved low) f = refl
node_told single (Left low) f = refl

told_in : (single : Bool) (nodes : List Node) (order : List ℕ) → HaveLines single nodes
    → All (λ i. i < length nodes) order
    → map (λ i. unnumbered (node_at nodes i)) order ≡ map told (rows_in nodes order)
told_in single nodes [] fits there = refl
told_in single nodes (i ∷ order) fits there =
    let first = node_told single (node_at nodes i) (fits i (All-head (λ k. k < length nodes) i order there)) in
    let rest = told_in single nodes order fits (All-tail (λ k. k < length nodes) i order there) in
    ap (λ (n : Node). n ∷ map (λ k. unnumbered (node_at nodes k)) order) first ∙ ap (λ (ns : List Node). told (row_of (node_at nodes i)) ∷ ns) rest

-- trees with the same lines say the same
pub same_said : (single : Bool) (nodes others : List Node) → IsTree nodes → IsTree others → HaveLines single nodes
    → HaveLines single others
    → lines_of nodes ≡ lines_of others → said nodes ≡ said others
same_said single nodes others tree twin fits too e =
    told_in single nodes (preorder nodes) fits (preorder_there nodes tree)
    ∙ ap (λ (rows : List Row). map told rows) e
    ∙ sym (told_in single others (preorder others) too (preorder_there others twin))
