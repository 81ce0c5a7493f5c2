-- Answers that say the same.
use Rattle.std.specs.Prelude.{◌≡◌, List, length, map, replicate}
use Rattle.choice_tree.specs.declared.node.Node.{Node}
use Rattle.choice_tree.specs.declared.node.Node.TheVariants.{Split, Closed, Stuck, Solved, Left}
use Rattle.choice_tree.specs.Nodes.{node_at}
use Rattle.choice_tree.specs.Trees.{preorder}
use Rattle.answer_text.specs.declared.answer.Answer.{Answer}

-- a node without the numbers of its children: a split tells how many it has
abbrev pub unnumbered : Node → Node
unnumbered (Split question children) = Split question (replicate (length children) 0)
unnumbered (Closed low high) = Closed low high
unnumbered (Stuck m) = Stuck m
unnumbered (Solved low) = Solved low
unnumbered (Left low) = Left low

-- what a tree says: its nodes in preorder, without numbers
abbrev pub said : List Node → List Node
said nodes = map (λ i. unnumbered (node_at nodes i)) (preorder nodes)

-- both answers say the same; the numbers of their trees' nodes may differ
pub record SayTheSame (a b : Answer) : Type 0 where
  pub verdict : a.verdict ≡ b.verdict
  pub bound : a.bound ≡ b.bound
  pub splits : a.splits ≡ b.splits
  pub timetable : a.timetable ≡ b.timetable
  pub tree : said a.tree ≡ said b.tree
