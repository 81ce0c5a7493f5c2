-- What is known of a node once it was tried: it shows that periods below the bound are refuted, or what its first flaw
-- is.
use Rattle.std.specs.Prelude.{◌≡◌, ℕ, ◌+◌, ◌≤◌, ℤ, pos, List, [], ◌∷◌, Option, Some, None, MatchOption, IfSome, option_map}
use Rattle.std.specs.Option.{option_or}
use Rattle.hoist_base.specs.LineData.{LineData}
use Rattle.timetable.specs.Faults.{IsLess}
use Rattle.choice_tree.specs.declared.question.Decision.{Decision}
use Rattle.choice_tree.specs.declared.node.Node.{Node}
use Rattle.path_constraints.specs.Proves.{Shows}
use Rattle.cycle_walk.specs.declared.sums.Sums.{Sums}
use Rattle.cert_checker.specs.declared.reason.Reason.{Reason}
use Rattle.cert_checker.specs.declared.reason.Reason.TheVariants as reasons
use Rattle.cert_checker.specs.declared.walks.Followed.{Followed}
use Rattle.cert_checker.specs.Walks.{HasWalks, low_of, high_of}
use Rattle.cert_checker.specs.Flaws.{HasFlaw}
use Rattle.cert_checker.specs.Followed.{AreSmall, IsFollowedOr}

-- the number of the node that a reason names
abbrev pub named : Reason → ℕ
named reasons.TimetableMissing = 0
named reasons.TimetableExtra = 0
named (reasons.Bound _ _) = 0
named (reasons.Splits _ _) = 0
named (reasons.LeftNode _) = 0
named reasons.NoLeft = 0
named (reasons.Fault _) = 0
named (reasons.Question n) = n
named (reasons.Stuck n m) = n
named (reasons.Token n j) = n
named (reasons.Joint n j) = n
named (reasons.Period n _ _ _) = n

-- the place of a flaw among those of its node
abbrev pub rank_of : Reason → List ℤ
rank_of reasons.TimetableMissing = []
rank_of reasons.TimetableExtra = []
rank_of (reasons.Bound _ _) = []
rank_of (reasons.Splits _ _) = []
rank_of (reasons.LeftNode _) = []
rank_of reasons.NoLeft = []
rank_of (reasons.Fault _) = []
rank_of (reasons.Question n) = pos 0 ∷ []
rank_of (reasons.Stuck n m) = pos 1 ∷ []
rank_of (reasons.Token n j) = pos 2 ∷ pos j ∷ []
rank_of (reasons.Joint n j) = pos 3 ∷ pos j ∷ []
rank_of (reasons.Period n _ _ _) = pos 4 ∷ []

-- the node, which is named by number n, has this flaw and none before it
pub record IsFirstFlaw (l : LineData) (path : List Decision) (node : Node) (bound n : ℕ) (r : Reason) : Type 0 where
  pub has : HasFlaw l path node bound r
  pub names : named r ≡ n
  pub first : (s : Reason) → HasFlaw l path node bound s → IsLess (rank_of s) (rank_of r) → ⊥

abbrev pub IsNodeAnswer : LineData → List Decision → Node → ℕ → ℕ → Option Reason → Type 0
IsNodeAnswer l path node bound n answer = MatchOption answer (Shows l path node bound) (λ r. IsFirstFlaw l path node bound n r)

-- ---- two walks that were followed

abbrev pub own_loose : Option Followed → Option ℕ
own_loose None = None
own_loose (Some f) = f.loose

abbrev pub count_of : Option Followed → ℕ
count_of None = 0
count_of (Some f) = f.count

abbrev pub sums_in : Option Followed → Option Sums
sums_in None = None
sums_in (Some f) = Some f.sums

-- the first loose constraint of both, counted through low and then high
abbrev pub first_loose : Option Followed → Option Followed → Option ℕ
first_loose low high = option_or (own_loose low) (option_map (λ j. count_of low + j) (own_loose high))

-- their numbers are small
pub record AreUsable (f : Option Followed) : Type 0 where
  pub count : count_of f ≤ 1000
  pub loose : IfSome (own_loose f) (λ j. j ≤ 1000)
  pub sums : AreSmall (sums_in f)

-- what the two walks say of each leaf whose walks they are
abbrev pub IsJudged : Option Followed → Option Followed → ℕ → ℕ → Option Reason → Type 0
IsJudged low high bound n answer =
    (l : LineData) (path : List Decision) (leaf : Node) → HasWalks leaf → IsFollowedOr l path (low_of leaf) low
    → IsFollowedOr l path (high_of leaf) high → IsNodeAnswer l path leaf bound n answer
