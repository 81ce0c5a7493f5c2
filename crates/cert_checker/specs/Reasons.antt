-- Why an answer is rejected.
use Rattle.std.specs.Prelude.{◌≡◌, ◌≢◌, ℕ, ◌+◌, ◌<◌, List, length, get_or, count_by, Bool, true, false, IsSome, Option, Some, None}
use Rattle.hoist_base.specs.LineData.{LineData}
use Rattle.timetable.specs.TimetableData.{TimetableData, timetable_of}
use Rattle.timetable.specs.Faults.{HasFault}
use Rattle.choice_tree.specs.declared.question.Decision.{Decision}
use Rattle.choice_tree.specs.declared.node.Node.{Node}
use Rattle.choice_tree.specs.declared.node.Node.TheVariants as nodes
use Rattle.choice_tree.specs.Nodes.{node_at, IsLeft, NoneLeft, IsPathTo}
use Rattle.choice_tree.specs.Trees.{preorder}
use Rattle.answer_text.specs.declared.answer.Verdict.{Verdict}
use Rattle.answer_text.specs.declared.answer.Verdict.TheVariants.{Optimal, Nothing, Unfinished}
use Rattle.answer_text.specs.declared.answer.Answer.{Answer}
use Rattle.cert_checker.specs.declared.reason.Reason.{Reason}
use Rattle.cert_checker.specs.declared.reason.Reason.TheVariants as reasons
use Rattle.cert_checker.specs.Flaws.{HasFlaw}

-- ---- the verdict and the bound

-- the verdict asks for another bound than the one that is claimed: the period, or one more than the greatest period of
-- a search; an open answer may claim less
abbrev pub IsWrongBound : LineData → Verdict → Option TimetableData → ℕ → ℕ → Type 0
IsWrongBound l Optimal None seen want = ⊥
IsWrongBound l Optimal (Some t) seen want = (want ≡ t.period) × (seen ≢ want)
IsWrongBound l Nothing t seen want = (want ≡ l.max_period + 1) × (seen ≢ want)
IsWrongBound l Unfinished None seen want = (want ≡ l.max_period + 1) × (want < seen)
IsWrongBound l Unfinished (Some t) seen want = (want ≡ t.period) × (want < seen)

-- ---- the tree as a whole

abbrev pub is_split : Node → Bool
is_split (nodes.Split question children) = true
is_split (nodes.Closed low high) = false
is_split (nodes.Stuck m) = false
is_split (nodes.Solved low) = false
is_split (nodes.Left low) = false

abbrev pub split_count : List Node → ℕ
split_count nodes = count_by is_split nodes

-- the node that is number n in preorder
abbrev pub number_at : List Node → ℕ → ℕ
number_at nodes n = get_or (preorder nodes) n 0

-- node n in preorder is left
abbrev pub IsLeftNode : List Node → ℕ → Type 0
IsLeftNode nodes n = (n < length (preorder nodes)) × IsLeft (node_at nodes (number_at nodes n))

-- ---- its nodes

-- node i of the tree is number n in preorder, and the path leads to it
pub record StandsAt (nodes : List Node) (n i : ℕ) (path : List Decision) : Type 0 where
  pub there : n < length (preorder nodes)
  pub is : number_at nodes n ≡ i
  pub leads : IsPathTo nodes i path

-- node n in preorder has this flaw below its path
pub record IsFlawed (l : LineData) (nodes : List Node) (bound n : ℕ) (r : Reason) : Type 0 where
  pub node : ℕ
  pub path : List Decision
  pub stands : StandsAt nodes n node path
  pub flaw : HasFlaw l path (node_at nodes node) bound r

-- ---- all reasons

-- the answer fails this rule, with these values
abbrev pub HasReason : LineData → Answer → Reason → Type 0
HasReason l a reasons.TimetableMissing = (a.verdict ≡ Optimal) × (a.timetable ≡ None)
HasReason l a reasons.TimetableExtra = (a.verdict ≡ Nothing) × IsSome a.timetable
HasReason l a (reasons.Bound seen want) = (seen ≡ a.bound) × IsWrongBound l a.verdict a.timetable seen want
HasReason l a (reasons.Splits seen count) = (seen ≡ a.splits) × (count ≡ split_count a.tree) × (seen ≢ count)
HasReason l a (reasons.LeftNode n) = (a.verdict ≢ Unfinished) × IsLeftNode a.tree n
HasReason l a reasons.NoLeft = (a.verdict ≡ Unfinished) × NoneLeft a.tree
HasReason l a (reasons.Fault f) = (t : TimetableData) × (a.timetable ≡ Some t) × HasFault l (timetable_of t) f
HasReason l a (reasons.Question n) = IsFlawed l a.tree a.bound n (reasons.Question n)
HasReason l a (reasons.Stuck n m) = IsFlawed l a.tree a.bound n (reasons.Stuck n m)
HasReason l a (reasons.Token n j) = IsFlawed l a.tree a.bound n (reasons.Token n j)
HasReason l a (reasons.Joint n j) = IsFlawed l a.tree a.bound n (reasons.Joint n j)
HasReason l a (reasons.Period n period low high) = IsFlawed l a.tree a.bound n (reasons.Period n period low high)
