-- What a reason is worth.
use Rattle.std.specs.Prelude.{◌≡◌, ℕ, ◌<◌, ◌≤◌, List, length}
use Rattle.hoist_base.specs.LineData.{LineData, IsMove}
use Rattle.hoist_base.specs.Valid.{IsLine}
use Rattle.choice_tree.specs.declared.question.Decision.{Decision}
use Rattle.choice_tree.specs.declared.constraint.Constraint.{Constraint}
use Rattle.choice_tree.specs.declared.node.Node.{Node}
use Rattle.choice_tree.specs.declared.node.Node.TheVariants.{Split, Closed, Stuck, Solved, Left}
use Rattle.choice_tree.specs.Nodes.{node_at, IsPathTo, IsLeaf}
use Rattle.choice_tree.specs.Trees.{IsTree}
use Rattle.path_constraints.specs.Tanks.{IsStuck}
use Rattle.path_constraints.specs.Proves.{IsClosedWalk, RefutesPeriod}
use Rattle.answer_text.specs.declared.answer.Answer.{Answer}
use Rattle.answer_text.specs.declared.answer.Verdict.TheVariants.{Optimal}
use Rattle.markup.specs.Forms.{Form}
use Rattle.cert_checker.specs.Walks.{HasWalks}
use Rattle.cert_checker.specs.Flaws.{IsOpen}
use Rattle.cert_checker.specs.Rules.{KeepsRules}
use Rattle.report_reason.specs.Nearest.{Sets, NoneSets}
use Rattle.report_reason.specs.Reason.{IsReason}

-- an answer has one reason
abbrev pub OneReason : Type 0
OneReason = (l : LineData) (a : Answer) (e f : Form) → IsTree a.tree → IsReason l a e → IsReason l a f → e ≡ f

-- the walk of a leaf of an answer that keeps the rules: it is closed and refutes all periods below the bound, and no
-- walk of its leaf refutes the bound
pub record IsShown (l : LineData) (a : Answer) (path : List Decision) (node : ℕ) (walk : List Constraint) : Type 0 where
  pub walks : HasWalks (node_at a.tree node)
  pub closed : IsClosedWalk l path walk
  pub refuted : (t : ℕ) → t < a.bound → RefutesPeriod l path t walk
  pub is_open : IsOpen l path (node_at a.tree node) a.bound

abbrev pub ShownIsProof : Type 0
ShownIsProof =
    (l : LineData) (a : Answer) (n : ℕ) (path : List Decision) (walk : List Constraint) → IsLine l → IsTree a.tree
    → KeepsRules l a → 1 ≤ a.bound → (s : Sets l a n path walk) → IsShown l a path s.node walk

-- a leaf refutes a period by one of its walks, or no hoist can make one of its moves
abbrev pub IsShut : LineData → List Decision → Node → ℕ → Type 0
IsShut l path (Split question children) period = ⊥
IsShut l path (Closed low high) period = IsOpen l path (Closed low high) period → ⊥
IsShut l path (Stuck m) period = IsMove l m.carrier m.step × IsStuck l path m.carrier m.step
IsShut l path (Solved low) period = IsOpen l path (Solved low) period → ⊥
IsShut l path (Left low) period = IsOpen l path (Left low) period → ⊥

-- where no node sets a bound of two ticks or more, each leaf of an answer that keeps the rules refutes it too
abbrev pub NoneIsProof : Type 0
NoneIsProof =
    (l : LineData) (a : Answer) (i : ℕ) (path : List Decision) → IsTree a.tree → KeepsRules l a → 2 ≤ a.bound
    → NoneSets l a
    → i < length a.tree → IsPathTo a.tree i path → IsLeaf (node_at a.tree i) → IsShut l path (node_at a.tree i) a.bound

-- an optimal answer of two ticks or more has a branch that is shown
abbrev pub OptimalIsShown : Type 0
OptimalIsShown =
    (l : LineData) (a : Answer) → IsLine l → IsTree a.tree → KeepsRules l a → a.verdict ≡ Optimal → 2 ≤ a.bound
    → NoneSets l a → ⊥
