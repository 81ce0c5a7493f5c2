-- What the definitions amount to.
use Rattle.std.specs.Prelude.{◌≡◌, ℕ, suc, ◌+◌, ◌-◌, ◌<◌, ◌↔◌, length, slice_index, Some, ℤ, pos, ◌+ℤ◌, ◌≤ℤ◌, ◌<ℤ◌}
use Rattle.longest_path.specs.System.{SystemData, IsSystem, arc, Refutes, sum_w, sum_q}
use Rattle.longest_path.specs.Rounds.{weights_at}
use Rattle.cycle_walk.specs.Values.{IsWalkValue, value}
use Rattle.cycle_walk.specs.Closed.{WalkData, closed_walk_of, IsFeasible, IsClosedWalk, HasSmallSums, IsLoop}
use Rattle.cycle_walk.specs.Climb.{least_kept}

-- the rounds give the greatest weights of walks of at most m constraints
abbrev pub ValuesAreGreatest : Type 0
ValuesAreGreatest = (s : SystemData) (wt : ℕ → ℤ) (m i : ℕ) → IsWalkValue s wt m i (value s wt m i)

-- a period is feasible exactly where no node grows in the last round
abbrev pub FeasibleWhereStill : Type 0
FeasibleWhereStill =
    (s : SystemData) (period : ℕ) → IsSystem s → IsFeasible s period
    ↔ ((i : ℕ) → i < s.nodes → value s (weights_at s period) s.nodes i ≤ℤ value s (weights_at s period) (s.nodes - 1) i)

-- after a round that changes no node all later values are the same, so a test that stops there answers as one that goes
-- on
abbrev pub StoppingIsExact : Type 0
StoppingIsExact =
    (s : SystemData) (period m d : ℕ) → IsSystem s → ((i : ℕ) → i < s.nodes → value s (weights_at s period) (suc m) i
    ≡ value s (weights_at s period) m i) → (i : ℕ) → i < s.nodes → value s (weights_at s period) (m + d) i
    ≡ value s (weights_at s period) m i

-- constraint k is the first that ends at node j and brings it its value of m + 1
pub record IsFirstFit (s : SystemData) (wt : ℕ → ℤ) (m j k : ℕ) : Type 0 where
  pub in_list : k < length s.arcs
  pub ends : (arc s k).to ≡ j
  pub brings : value s wt m (arc s k).from +ℤ wt k ≡ value s wt (suc m) j
  pub first : (x : ℕ) → x < k → (arc s x).to ≡ j → value s wt m (arc s x).from +ℤ wt x ≡ value s wt (suc m) j → ⊥

-- the rule of the canonical closed walk: from the least node that grows in the last round the first constraint that
-- fits, step by step, up to the first node that comes again; the walk has the constraints between its two places
pub record IsCanonical (s : SystemData) (wt : ℕ → ℤ) (walk : WalkData) : Type 0 where
  pub node : ℕ → ℕ
  pub arc_of : ℕ → ℕ
  pub a : ℕ
  pub b : ℕ
  pub start_in : node 0 < s.nodes
  pub start_grows : value s wt (s.nodes - 1) (node 0) <ℤ value s wt s.nodes (node 0)
  pub start_least : (i : ℕ) → i < node 0 → value s wt s.nodes i ≤ℤ value s wt (s.nodes - 1) i
  pub fits : (t : ℕ) → t < b → IsFirstFit s wt (s.nodes - suc t) (node t) (arc_of t)
  pub goes_back : (t : ℕ) → t < b → node (suc t) ≡ (arc s (arc_of t)).from
  pub loop : IsLoop node s.nodes a b
  pub count : length walk.arcs ≡ b - a
  pub arcs : (x : ℕ) → x < b - a → slice_index walk.arcs x ≡ arc_of (b - suc x)
  pub w : walk.w ≡ sum_w s walk.arcs
  pub q : walk.q ≡ sum_q s walk.arcs

abbrev pub WalkIsCanonical : Type 0
WalkIsCanonical =
    (s : SystemData) (period : ℕ) (walk : WalkData) → IsSystem s → closed_walk_of s period ≡ Some walk → IsCanonical s (weights_at s period) walk

-- a closed walk that refutes a period leaves no solution there
abbrev pub WalksRefute : Type 0
WalksRefute =
    (s : SystemData) (period : ℕ) (walk : WalkData) → IsClosedWalk s walk → Refutes walk.w walk.q period → IsFeasible s period → ⊥

abbrev pub SumsAreSmall : Type 0
SumsAreSmall = (s : SystemData) (walk : WalkData) → IsSystem s → IsClosedWalk s walk → HasSmallSums walk

-- of the periods from 1 on a walk with q below 0 that refutes one refutes exactly those below `least_kept`
abbrev pub LeastKeptIsLeast : Type 0
LeastKeptIsLeast =
    (walk : WalkData) (period t : ℕ) → Refutes walk.w walk.q period → walk.q <ℤ pos 0 → Refutes walk.w walk.q t ↔ (t < least_kept walk)

-- and the rule has one walk only
abbrev pub CanonicalIsOne : Type 0
CanonicalIsOne =
    (s : SystemData) (wt : ℕ → ℤ) (x y : WalkData) → IsCanonical s wt x → IsCanonical s wt y → x ≡ y
