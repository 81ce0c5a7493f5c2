-- The nodes that wait while a tree is gone through in preorder.
use Rattle.std.specs.Prelude.{ℕ, ◌+◌, ◌<◌, ◌≤◌, List, [], ◌∷◌, Option, MatchOption}
use Rattle.hoist_base.specs.LineData.{LineData}
use Rattle.choice_tree.specs.declared.question.Question.{Question}
use Rattle.choice_tree.specs.declared.node.Node.{Node}
use Rattle.choice_tree.specs.declared.node.Node.TheVariants.{Split, Closed, Stuck, Solved, Left}
use Rattle.path_constraints.specs.Proves.{Proves}
use Rattle.answer_text.specs.declared.answer.Answer.{Answer}
use Rattle.cert_checker.specs.declared.reason.Reason.{Reason}
use Rattle.cert_checker.specs.declared.tree.Waiting.{Waiting}
use Rattle.cert_checker.specs.Reasons.{HasReason, IsFlawed}
use Rattle.cert_checker.specs.Order.{rule_number, IsEarlier}
use Rattle.cert_checker.specs.Judged.{named, rank_of}
use Rattle.timetable.specs.Faults.{IsLess}

-- the children of a split, from child m on, below a path of so many decisions
abbrev pub waits_of : ℕ → Question → ℕ → List ℕ → List Waiting
waits_of above question m [] = []
waits_of above question m (c ∷ cs) =
    (record { node = c; above = above; decision = record { question = question; child = m } })
    ∷ waits_of above question (m + 1) cs

-- the children of a node; a leaf has none
abbrev pub waits_below : ℕ → Node → List Waiting
waits_below above (Split question children) = waits_of above question 0 children
waits_below above (Closed low high) = []
waits_below above (Stuck m) = []
waits_below above (Solved low) = []
waits_below above (Left low) = []

-- node n in preorder has a flaw, and no node before it, and none of its own before that one
pub record IsFirstFlawed (l : LineData) (nodes : List Node) (bound : ℕ) (r : Reason) : Type 0 where
  pub has : IsFlawed l nodes bound (named r) r
  pub first : (n : ℕ) (s : Reason) → n < named r → IsFlawed l nodes bound n s → ⊥
  pub first_here : (s : Reason) → IsFlawed l nodes bound (named r) s → IsLess (rank_of s) (rank_of r) → ⊥

-- the tree proves the bound, or its first flaw
abbrev pub IsTreeAnswer : LineData → List Node → ℕ → Option Reason → Type 0
IsTreeAnswer l nodes bound answer = MatchOption answer (Proves l nodes bound) (λ r. IsFirstFlawed l nodes bound r)

-- the answer has this reason, and none of its rule or a later one that is earlier
pub record IsFirstFrom (l : LineData) (a : Answer) (rule : ℕ) (r : Reason) : Type 0 where
  pub has : HasReason l a r
  pub first : (s : Reason) → HasReason l a s → rule ≤ rule_number s → IsEarlier s r → ⊥
