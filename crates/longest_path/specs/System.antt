-- Systems of constraints `t to - t from >= w + q * period`, walks along them, and what solves them.
use Rattle.std.specs.Prelude.{◌≡◌, ℕ, ◌≤◌, ◌<◌, List, [], ◌∷◌, length, get_or, ℤ, pos, ◌+ℤ◌, ◌*ℤ◌, ◌≤ℤ◌, ◌<ℤ◌, unsigned_abs}
use Rattle.longest_path.specs.declared.systems.Arc.{Arc}

pub record SystemData : Type 0 where
  pub nodes : ℕ
  pub arcs : List Arc

-- constraint k of a system
abbrev pub arc : SystemData → ℕ → Arc
arc s k = get_or s.arcs k (record { from = 0; to = 0; w = pos 0; q = pos 0 })

-- what a constraint asks at a period
abbrev pub weight : Arc → ℕ → ℤ
weight a period = a.w +ℤ a.q *ℤ pos period

-- a constraint that may stand in a system of so many nodes
abbrev pub IsArc : ℕ → Arc → Type 0
IsArc nodes a =
    (a.from < nodes) × (a.to < nodes) × (unsigned_abs a.w ≤ 10000000) × (unsigned_abs a.q ≤ 1000000000)

pub record IsSystem (s : SystemData) : Type 0 where
  pub nodes : (1 ≤ s.nodes) × (s.nodes ≤ 124)
  pub count : length s.arcs ≤ 30000
  pub ends : (k : ℕ) → k < length s.arcs → ((arc s k).from < s.nodes) × ((arc s k).to < s.nodes)
  pub sizes : (k : ℕ) → k < length s.arcs
      → (unsigned_abs (arc s k).w ≤ 10000000) × (unsigned_abs (arc s k).q ≤ 1000000000)

-- the ticks t meet every constraint
abbrev pub Solves : SystemData → ℕ → (ℕ → ℤ) → Type 0
Solves s period t = (k : ℕ) → k < length s.arcs → (t (arc s k).from +ℤ weight (arc s k) period) ≤ℤ t (arc s k).to

-- a walk: constraints by their numbers, the last one first, lead from node i to node j
abbrev pub Leads : SystemData → ℕ → List ℕ → ℕ → Type 0
Leads s i [] j = i ≡ j
Leads s i (k ∷ ks) j = (k < length s.arcs) × ((arc s k).to ≡ j) × Leads s i ks (arc s k).from

-- the sums along a walk
abbrev pub sum_w : SystemData → List ℕ → ℤ
sum_w s [] = pos 0
sum_w s (k ∷ ks) = sum_w s ks +ℤ (arc s k).w

abbrev pub sum_q : SystemData → List ℕ → ℤ
sum_q s [] = pos 0
sum_q s (k ∷ ks) = sum_q s ks +ℤ (arc s k).q

-- a closed walk with these sums shows that no ticks solve the system at the period
abbrev pub Refutes : ℤ → ℤ → ℕ → Type 0
Refutes w q period = pos 0 <ℤ (w +ℤ q *ℤ pos period)

-- some walk leads from node 0 to node i
abbrev pub IsReached : SystemData → ℕ → Type 0
IsReached s i = (ks : List ℕ) × Leads s 0 ks i

-- one tick a node; they solve the system with 0 at node 0, and no others that do are less anywhere
pub record IsLeastSolution (s : SystemData) (period : ℕ) (ticks : List ℤ) : Type 0 where
  pub count : length ticks ≡ s.nodes
  pub solves : Solves s period (λ i. get_or ticks i (pos 0))
  pub at_start : get_or ticks 0 (pos 0) ≡ pos 0
  pub least : (t : ℕ → ℤ) → Solves s period t → t 0 ≡ pos 0 → (i : ℕ) → i < s.nodes → get_or ticks i (pos 0) ≤ℤ t i

abbrev pub HasNoSolution : SystemData → ℕ → Type 0
HasNoSolution s period = (t : ℕ → ℤ) → Solves s period t → ⊥

-- no constraint asks more than w either way at the period
abbrev pub AreWithin : SystemData → ℕ → ℕ → Type 0
AreWithin s period w = (k : ℕ) → k < length s.arcs → unsigned_abs (weight (arc s k) period) ≤ w
