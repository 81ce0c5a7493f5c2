-- What is known of the leaves that were passed, before and after they are tried.
use Rattle.std.specs.Prelude.{◌≡◌, ◌⊎◌, ℕ, ◌<◌, List, [], ◌∷◌, length, get_or, take, All, Bool, true, false}
use Rattle.std.specs.Prelude.{Option, MatchOption}
use Rattle.hoist_base.specs.LineData.{LineData, is_single}
use Rattle.hoist_base.specs.Valid.{IsLine}
use Rattle.longest_path.specs.Bounds.{IsPeriod}
use Rattle.choice_tree.specs.declared.question.Decision.{Decision}
use Rattle.choice_tree.specs.declared.node.Node.{Node}
use Rattle.choice_tree.specs.Nodes.{node_at}
use Rattle.path_constraints.specs.Questions.{FitsPath}
use Rattle.path_constraints.specs.Proves.{Shows}
use Rattle.answer_text.specs.Nodes.{IsNodeText}
use Rattle.cert_checker.specs.declared.passed.Leaf.{Leaf}
use Rattle.cert_checker.specs.declared.reason.Reason.{Reason}
use Rattle.cert_checker.specs.Reasons.{StandsAt, is_split}
use Rattle.cert_checker.specs.Judged.{IsFirstFlaw, IsNodeAnswer}
use Rattle.cert_checker.specs.Passed.{PassedLeaf, leaf_of, IsWithin}

-- the leaf stands in the tree where it says, and its path fits the line
pub record IsPassed (l : LineData) (nodes : List Node) (leaf : PassedLeaf) : Type 0 where
  pub stands : StandsAt nodes leaf.number leaf.node leaf.path
  pub there : leaf.node < length nodes
  pub fits : FitsPath l leaf.path

-- a leaf of a line and a tree that can be tried: its path is among the decisions
pub record CanBeTried (l : LineData) (nodes : List Node) (bound : ℕ) (decisions : List Decision) (leaf : Leaf) : Type 0 where
  pub valid : IsLine l
  pub texts : (i : ℕ) → i < length nodes → IsNodeText (is_single l) (node_at nodes i)
  pub period : IsPeriod bound
  pub within : IsWithin decisions leaf
  pub passed : IsPassed l nodes (leaf_of decisions leaf)

-- what a node adds to them: itself, where it is a leaf
abbrev pub passed_with : Bool → ℕ → ℕ → List Decision → List PassedLeaf
passed_with true number node path = []
passed_with false number node path = (record { number = number; node = node; path = path }) ∷ []

abbrev pub passed_at : ℕ → ℕ → Node → List Decision → List PassedLeaf
passed_at number at node path = passed_with (is_split node) number at path

-- the leaf shows what it is to show
abbrev pub LeafShows : LineData → List Node → ℕ → PassedLeaf → Type 0
LeafShows l nodes bound leaf = Shows l leaf.path (node_at nodes leaf.node) bound

-- what is wrong with the leaf
abbrev pub IsLeafAnswer : LineData → List Node → ℕ → PassedLeaf → Option Reason → Type 0
IsLeafAnswer l nodes bound leaf answer = IsNodeAnswer l leaf.path (node_at nodes leaf.node) bound leaf.number answer

-- a leaf has this flaw first, and all leaves that were passed before it show what they are to
pub record IsFirstAmong (l : LineData) (nodes : List Node) (bound : ℕ) (leaves : List PassedLeaf) (r : Reason) : Type 0 where
  pub place : ℕ
  pub leaf : PassedLeaf
  pub there : place < length leaves
  pub is : get_or leaves place leaf ≡ leaf
  pub before : All (LeafShows l nodes bound) (take place leaves)
  pub flaw : IsFirstFlaw l leaf.path (node_at nodes leaf.node) bound leaf.number r

-- they all show it, or the first of them that doesn't has this flaw
abbrev pub IsAnswerOf : LineData → List Node → ℕ → List PassedLeaf → Option Reason → Type 0
IsAnswerOf l nodes bound leaves answer =
    MatchOption answer (All (LeafShows l nodes bound) leaves) (λ r. IsFirstAmong l nodes bound leaves r)

-- the leaves wait still, or they all show it and none waits
abbrev pub AreTried : LineData → List Node → ℕ → List PassedLeaf → List PassedLeaf → Type 0
AreTried l nodes bound leaves waiting = (waiting ≡ leaves) ⊎ ((waiting ≡ []) × All (LeafShows l nodes bound) leaves)
