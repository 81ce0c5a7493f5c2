-- What the bytes of an answer's text are, and how far bytes go on as one.
use Rattle.std.specs.Prelude.{◌≡◌, ℕ, ◌-◌, List, length, flat_map}
use Rattle.hoist_base.specs.LineData.{LineData}
use Rattle.choice_tree.specs.declared.node.Node.{Node}
use Rattle.choice_tree.specs.Nodes.{node_at, children_of, numbers_from}
use Rattle.choice_tree.specs.Trees.{IsTree, preorder}
use Rattle.answer_text.specs.declared.answer.Answer.{Answer}
use Rattle.answer_text.specs.Answers.{answer_text, IsWritable}
use Rattle.field_reading.specs.Fronts as texts
use Rattle.answer_read.specs.declared.answer.AnswerRead.{AnswerRead}
use Rattle.answer_read.specs.declared.answer.AnswerRead.TheVariants.{Ready, Broken}

-- an answer that has a text for the line
pub record IsAnswer (l : LineData) (a : Answer) : Type 0 where
  pub tree : IsTree a.tree
  pub writable : IsWritable l a

-- the nodes are numbered as they are when they are split in preorder: in preorder, their children are 1, 2, 3 and so on
abbrev pub IsNumbered : List Node → Type 0
IsNumbered nodes = flat_map (λ i. children_of (node_at nodes i)) (preorder nodes) ≡ numbers_from 1 (length nodes - 1)

-- the bytes are the text of this answer, whose nodes are numbered in preorder
pub record IsTextOf (l : LineData) (bytes : List ℕ) (a : Answer) : Type 0 where
  pub answer : IsAnswer l a
  pub numbered : IsNumbered a.tree
  pub text : bytes ≡ answer_text l a

-- the text of some answer to the line begins so
abbrev pub GoesOn : LineData → List ℕ → Type 0
GoesOn l front = texts.GoesOn (IsAnswer l) (answer_text l) front

-- the bytes are the text of no answer, and their longest front that the text of some answer begins with has n bytes
abbrev pub BreaksAt : LineData → List ℕ → ℕ → Type 0
BreaksAt l bytes n = texts.BreaksAt (IsAnswer l) (answer_text l) bytes n

-- a right answer about the bytes
abbrev pub IsRead : LineData → List ℕ → AnswerRead → Type 0
IsRead l bytes (Ready answer) = IsTextOf l bytes answer
IsRead l bytes (Broken offset) = BreaksAt l bytes offset
