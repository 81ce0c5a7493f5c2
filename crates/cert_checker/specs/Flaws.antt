-- What can be wrong with a node of a tree, below its path, where the tree is to prove a bound.
use Rattle.std.specs.Prelude.{◌≡◌, ◌≢◌, ℕ, ◌<◌, ◌≤◌, List, length, Contains, option_map}
use Rattle.hoist_base.specs.LineData.{LineData, IsMove}
use Rattle.hoist_base.specs.declared.ids.MoveId.{MoveId}
use Rattle.choice_tree.specs.declared.question.Decision.{Decision}
use Rattle.choice_tree.specs.declared.constraint.Constraint.{Constraint}
use Rattle.choice_tree.specs.declared.node.Node.{Node}
use Rattle.choice_tree.specs.declared.node.Node.TheVariants as nodes
use Rattle.path_constraints.specs.Tanks.{IsStuck}
use Rattle.path_constraints.specs.Constraints.{IsConstraint, arc_of}
use Rattle.path_constraints.specs.Proves.{IsWholeSplit, RefutesPeriod, sum_w, sum_q}
use Rattle.cycle_walk.specs.declared.sums.Sums.{Sums}
use Rattle.cert_checker.specs.declared.reason.Reason.{Reason}
use Rattle.cert_checker.specs.declared.reason.Reason.TheVariants.{TimetableMissing, TimetableExtra, Bound, Splits, LeftNode, NoLeft, Fault, Question, Stuck, Token, Joint, Period}
use Rattle.cert_checker.specs.Walks.{HasWalks, low_of, high_of, walks_of, tokens_of, followers_of, token_at}

-- a split whose question doesn't fit its path, or that hasn't a child for each answer
abbrev pub IsUnfit : LineData → List Decision → Node → Type 0
IsUnfit l path (nodes.Split question children) = IsWholeSplit l path question children → ⊥
IsUnfit l path (nodes.Closed low high) = ⊥
IsUnfit l path (nodes.Stuck m) = ⊥
IsUnfit l path (nodes.Solved low) = ⊥
IsUnfit l path (nodes.Left low) = ⊥

-- a leaf that calls this move stuck, which isn't there, or which a hoist may reach below the path
abbrev pub IsFree : LineData → List Decision → Node → MoveId → Type 0
IsFree l path (nodes.Split question children) m = ⊥
IsFree l path (nodes.Closed low high) m = ⊥
IsFree l path (nodes.Stuck named) m = (m ≡ named) × (IsMove l m.carrier m.step × IsStuck l path m.carrier m.step → ⊥)
IsFree l path (nodes.Solved low) m = ⊥
IsFree l path (nodes.Left low) m = ⊥

-- constraint j of the node's walks isn't on the path
abbrev pub IsStray : LineData → List Decision → Node → ℕ → Type 0
IsStray l path node j = (j < length (tokens_of node)) × (IsConstraint l path (token_at (tokens_of node) j) → ⊥)

-- constraint j doesn't end where the next of its walk begins, or the last where the first begins
abbrev pub IsLoose : LineData → List Decision → Node → ℕ → Type 0
IsLoose l path node j =
    (j < length (tokens_of node))
    × ((arc_of l path (token_at (tokens_of node) j)).to ≢ (arc_of l path (token_at (followers_of node) j)).from)

-- no walk of the node refutes the period
abbrev pub IsOpen : LineData → List Decision → Node → ℕ → Type 0
IsOpen l path node period = (walk : List Constraint) → Contains (walks_of node) walk → RefutesPeriod l path period walk → ⊥

-- a leaf that is to refute all periods below the bound, and the least that it leaves open
pub record IsLeastOpen (l : LineData) (path : List Decision) (node : Node) (bound period : ℕ) : Type 0 where
  pub walks : HasWalks node
  pub within : (1 ≤ period) × (period < bound)
  pub is_open : IsOpen l path node period
  pub least : (t : ℕ) → 1 ≤ t → t < period → IsOpen l path node t → ⊥

-- the sums of a walk
abbrev pub sums_of : LineData → List Decision → List Constraint → Sums
sums_of l path walk = record { w = sum_w l path walk; q = sum_q l path walk }

-- the node has this flaw, with these values; the number of the node is left open
abbrev pub HasFlaw : LineData → List Decision → Node → ℕ → Reason → Type 0
HasFlaw l path node bound TimetableMissing = ⊥
HasFlaw l path node bound TimetableExtra = ⊥
HasFlaw l path node bound (Bound seen want) = ⊥
HasFlaw l path node bound (Splits seen count) = ⊥
HasFlaw l path node bound (LeftNode n) = ⊥
HasFlaw l path node bound NoLeft = ⊥
HasFlaw l path node bound (Fault f) = ⊥
HasFlaw l path node bound (Question n) = IsUnfit l path node
HasFlaw l path node bound (Stuck n m) = IsFree l path node m
HasFlaw l path node bound (Token n j) = IsStray l path node j
HasFlaw l path node bound (Joint n j) = IsLoose l path node j
HasFlaw l path node bound (Period n period low high) =
    IsLeastOpen l path node bound period × (low ≡ option_map (sums_of l path) (low_of node))
    × (high ≡ option_map (sums_of l path) (high_of node))
