-- The canonical closed walk.
use Rattle.std.specs.Prelude.{◌≡◌, ℕ, zero, suc, ◌+◌, ◌-◌, ◌≤◌, ◌<◌, ◌==◌, ◌&&◌, nat_lt, Bool, cond, List, [], ◌∷◌, length, ℤ, ◌+ℤ◌, ◌<ℤ◌, int_lt, Option, Some, None, unsigned_abs}
use Rattle.std.specs.Ordering.{int_eq}
use Rattle.longest_path.specs.System.{SystemData, arc, sum_w, sum_q, Solves}
use Rattle.longest_path.specs.Rounds.{weights_at}
use Rattle.cycle_walk.specs.Values.{value}

-- the least number below n that passes, or n
abbrev pub first_below : (ℕ → Bool) → ℕ → ℕ
first_below p zero = zero
first_below p (suc n) = cond (nat_lt (first_below p n) n) (first_below p n) (cond (p n) n (suc n))

-- constraint k ends at node j, and brings it its value of m + 1 from a value of m
abbrev pub fits : SystemData → (ℕ → ℤ) → ℕ → ℕ → ℕ → Bool
fits s wt m j k =
    ((arc s k).to == j) && int_eq (value s wt m (arc s k).from +ℤ wt k) (value s wt (suc m) j)

-- the first constraint that fits
abbrev pub first_fit : SystemData → (ℕ → ℤ) → ℕ → ℕ → ℕ
first_fit s wt m j = first_below (fits s wt m j) (length s.arcs)

-- the node after t steps back from node i in the last round
abbrev pub node_back : SystemData → (ℕ → ℤ) → ℕ → ℕ → ℕ
node_back s wt i zero = i
node_back s wt i (suc t) = (arc s (first_fit s wt (s.nodes - suc t) (node_back s wt i t))).from

-- the constraint of the next step back
abbrev pub arc_back : SystemData → (ℕ → ℤ) → ℕ → ℕ → ℕ
arc_back s wt i t = first_fit s wt (s.nodes - suc t) (node_back s wt i t)

-- the first place of the value at t
abbrev pub first_same : (ℕ → ℕ) → ℕ → ℕ
first_same f t = first_below (λ x. f x == f t) t

-- the first place whose value came before, up to n
abbrev pub first_again : (ℕ → ℕ) → ℕ → ℕ
first_again f n = first_below (λ t. nat_lt (first_same f t) t) (suc n)

-- f (a + n - 1) down to f a
abbrev pub back_to : (ℕ → ℕ) → ℕ → ℕ → List ℕ
back_to f a zero = []
back_to f a (suc n) = f (a + n) ∷ back_to f a n

-- the values at b and at a are the first two that are the same
pub record IsLoop (f : ℕ → ℕ) (n a b : ℕ) : Type 0 where
  pub order : a < b
  pub within : b ≤ n
  pub same : f a ≡ f b
  pub once : (x y : ℕ) → x < y → y < b → f x ≡ f y → ⊥

-- node i grows in the last round
abbrev pub Rises : SystemData → (ℕ → ℤ) → ℕ → Type 0
Rises s wt i = value s wt (s.nodes - 1) i <ℤ value s wt s.nodes i

-- constraints in walking order and their sums
pub record WalkData : Type 0 where
  pub arcs : List ℕ
  pub w : ℤ
  pub q : ℤ

abbrev pub walk_of : SystemData → List ℕ → WalkData
walk_of s ks = record { arcs = ks; w = sum_w s ks; q = sum_q s ks }

-- the constraints between the two places of the first node that comes twice
abbrev pub arcs_from : SystemData → (ℕ → ℤ) → ℕ → List ℕ
arcs_from s wt i =
    let b = first_again (node_back s wt i) s.nodes in
    let a = first_same (node_back s wt i) b in
    back_to (arc_back s wt i) a (b - a)

-- the least node whose value grows in the last round
abbrev pub first_risen : SystemData → (ℕ → ℤ) → ℕ
first_risen s wt = first_below (λ i. int_lt (value s wt (s.nodes - 1) i) (value s wt s.nodes i)) s.nodes

-- the canonical closed walk at a period, where there is one
unfoldable pub closed_walk_of : SystemData → ℕ → Option WalkData
closed_walk_of s period =
    let wt = weights_at s period in
    let i = first_risen s wt in
    cond (nat_lt i s.nodes) (Some (walk_of s (arcs_from s wt i))) None

-- some ticks solve the system
abbrev pub IsFeasible : SystemData → ℕ → Type 0
IsFeasible s period = (t : ℕ → ℤ) × Solves s period t

-- constraints in walking order lead from node i to node j
abbrev pub Walks : SystemData → ℕ → List ℕ → ℕ → Type 0
Walks s i [] j = i ≡ j
Walks s i (k ∷ ks) j = (k < length s.arcs) × ((arc s k).from ≡ i) × Walks s (arc s k).to ks j

-- a closed walk with its sums
pub record IsClosedWalk (s : SystemData) (walk : WalkData) : Type 0 where
  pub node : ℕ
  pub leads : Walks s node walk.arcs node
  pub some : 1 ≤ length walk.arcs
  pub few : length walk.arcs ≤ 124
  pub w : walk.w ≡ sum_w s walk.arcs
  pub q : walk.q ≡ sum_q s walk.arcs

-- no more than 124 constraints can bring
abbrev pub HasSmallSums : WalkData → Type 0
HasSmallSums walk = (unsigned_abs walk.w ≤ 1240000000) × (unsigned_abs walk.q ≤ 124000000000)
