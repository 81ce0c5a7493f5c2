-- The canonical closed walk refutes the period, and without one the period is feasible.
use Rattle.std.proofs.Common.{◌≡◌, ℕ, zero, suc, length, ◌+◌, ◌-◌, ◌*◌, ◌<◌, ◌≤◌, ◌⊎◌, inl, inr, ⊎_elim, List, [], ◌∷◌, refl, sym, ap, subst, ◌∙◌, Some, None, ℤ, pos, ◌+ℤ◌, ◌*ℤ◌, ◌≤ℤ◌, arith}
use Rattle.std.specs.Prelude.{nat_lt, int_lt, unsigned_abs}
use Rattle.std.proofs.lemmas.Int.{ints}
use Rattle.std.proofs.lemmas.Bool.{cond-true, cond-false, lt-ltb, le-ltb}
use Rattle.longest_path.specs.System.{SystemData, IsSystem, arc, Solves, sum_w, sum_q, Refutes}
use Rattle.longest_path.proofs.Cycles.{weighs_sums}
use Rattle.longest_path.specs.Rounds.{weights_at, walk_weight}
use Rattle.cycle_walk.specs.Values.{value}
use Rattle.cycle_walk.specs.Closed.{first_same, first_again, node_back, arc_back, back_to, arcs_from, WalkData, walk_of, first_risen, closed_walk_of, IsFeasible, Walks, IsClosedWalk, HasSmallSums, Rises}
use Rattle.cycle_walk.proofs.ValueLemmas.{value_brings, value_at}
use Rattle.cycle_walk.proofs.FirstLemmas.{first_cases, first_none, false_lt, lt_true, lt_false}
use Rattle.cycle_walk.proofs.TrailLemmas.{has_loop, back_leads, loop_gains}

-- what any solution says of the ends of a walk
walk_bound : (s : SystemData) (period : ℕ) (t : ℕ → ℤ) (i j : ℕ) (ks : List ℕ) → Solves s period t → Walks s i ks j
    → (t i +ℤ walk_weight (weights_at s period) ks) ≤ℤ t j
walk_bound s period t i j [] solves h = let e : t i ≡ t j = ap t h in omega (arith, ints)
walk_bound s period t i j (k ∷ ks) solves h =
    let e : t (arc s k).from ≡ t i = ap t h.1 in
    omega (arith, ints, walk_bound s period t (arc s k).to j ks solves h.2, solves k h.0, e)

pub length-back_to : (f : ℕ → ℕ) (a n : ℕ) → length (back_to f a n) ≡ n
length-back_to f a zero = refl
length-back_to f a (suc n) = omega (arith, length-back_to f a n)

-- a closed walk that refutes a period leaves no solution
pub closed_refutes : (s : SystemData) (period : ℕ) (walk : WalkData) → IsClosedWalk s walk
    → Refutes walk.w walk.q period → IsFeasible s period → ⊥
closed_refutes s period walk closed gains (t, solves) =
    let bound = walk_bound s period t closed.node closed.node walk.arcs solves closed.leads in
    let q = ap (λ z. z *ℤ pos period) closed.q in
    omega (arith, ints, bound, weighs_sums s period walk.arcs, gains, closed.w, q)

-- a node that grows in the last round has the canonical walk
pub walk_found : (s : SystemData) (period i : ℕ) → IsSystem s → i < s.nodes → Rises s (weights_at s period) i
    → IsClosedWalk s (walk_of s (arcs_from s (weights_at s period) i))
    × Refutes (sum_w s (arcs_from s (weights_at s period) i)) (sum_q s (arcs_from s (weights_at s period) i)) period
walk_found s period i valid p rises =
    let wt = weights_at s period in
    let f = node_back s wt i in
    let b = first_again f s.nodes in
    let a = first_same f b in
    let loop = has_loop s wt i valid p rises in
    let order : a < b = loop.order in
    let end : a + (b - a) ≡ b = omega (arith, order) in
    let leads = back_leads s wt i a (b - a) rises (omega (arith, end, loop.within)) in
    let gains = loop_gains s wt i a b rises loop in
    let at : f (a + (b - a)) ≡ f a = ap f end ∙ sym loop.same in (
      record {
        node = f a;
        leads = subst (λ j. Walks s j (back_to (arc_back s wt i) a (b - a)) (f a)) at leads;
        some = omega (arith, length-back_to (arc_back s wt i) a (b - a), order);
        few = omega (arith, length-back_to (arc_back s wt i) a (b - a), loop.within, valid.nodes.1);
        w = refl;
        q = refl;
      },
      omega (arith, ints, gains, weighs_sums s period (arcs_from s wt i)),
    )

-- where no node grows in the last round, its values solve the system
pub solved_by : (s : SystemData) (period : ℕ) → IsSystem s
    → ((i : ℕ) → i < s.nodes → value s (weights_at s period) s.nodes i ≤ℤ value s (weights_at s period) (s.nodes - 1) i)
    → IsFeasible s period
solved_by s period valid none =
    let wt = weights_at s period in (
      value s wt (s.nodes - 1),
      λ k lt.
          let to = (arc s k).to in
          let last = value_at s wt (suc (s.nodes - 1)) s.nodes to (omega (arith, valid.nodes.0)) in
          omega (arith, ints, value_brings s wt (s.nodes - 1) k lt, last, none to (valid.ends k lt).1),
    )

abbrev pub IsRefutedBy : SystemData → ℕ → WalkData → Type 0
IsRefutedBy s period walk = IsClosedWalk s walk × Refutes walk.w walk.q period

pub closed_cases : (s : SystemData) (period : ℕ) → IsSystem s
    → (IsFeasible s period × (closed_walk_of s period ≡ None)) ⊎ ((walk : WalkData) × (closed_walk_of s period ≡ Some walk) × IsRefutedBy s period walk)
unfolding closed_walk_of
closed_cases s period valid =
    let wt = weights_at s period in
    let i = first_risen s wt in
    let walk = walk_of s (arcs_from s wt i) in
    ⊎_elim
    (λ (all, none). inl (
      solved_by s period valid (λ j p. lt_false (value s wt (s.nodes - 1) j) (value s wt s.nodes j)
          (none j p)),
      cond-false (nat_lt i s.nodes) (Some walk) None (le-ltb i s.nodes (omega (arith, all))),
    ))
    (λ (lt, found, before). inr (
      walk,
      cond-true (nat_lt i s.nodes) (Some walk) None (lt-ltb i s.nodes lt),
      walk_found s period i valid lt (lt_true (value s wt (s.nodes - 1) i) (value s wt s.nodes i) found),
    ))
    (first_cases (λ j. int_lt (value s wt (s.nodes - 1) j) (value s wt s.nodes j)) s.nodes)

-- a last round that changes no node: no canonical walk
pub none_where_still : (s : SystemData) (period : ℕ)
    → ((i : ℕ) → i < s.nodes → value s (weights_at s period) s.nodes i ≡ value s (weights_at s period) (s.nodes - 1) i)
    → closed_walk_of s period ≡ None
unfolding closed_walk_of
none_where_still s period still =
    let wt = weights_at s period in
    let i = first_risen s wt in
    let none : i ≡ s.nodes = first_none (λ j. int_lt (value s wt (s.nodes - 1) j) (value s wt s.nodes j)) s.nodes
    (λ j p. false_lt (value s wt (s.nodes - 1) j) (value s wt s.nodes j) (omega (arith, ints, still j p))) in
    cond-false (nat_lt i s.nodes) (Some (walk_of s (arcs_from s wt i))) None (le-ltb i s.nodes (omega (arith, none)))

pub some_where_risen : (s : SystemData) (period i : ℕ) → i ≡ first_risen s (weights_at s period) → i < s.nodes
    → closed_walk_of s period ≡ Some (walk_of s (arcs_from s (weights_at s period) i))
unfolding closed_walk_of
some_where_risen s period i is p =
    let wt = weights_at s period in
    let f = first_risen s wt in
    cond-true (nat_lt f s.nodes) (Some (walk_of s (arcs_from s wt f))) None (lt-ltb f s.nodes (omega (arith, is, p)))
    ∙ ap (λ j. Some (walk_of s (arcs_from s wt j))) (sym is)

-- ---- sizes of sums
sums_within : (s : SystemData) (i j : ℕ) (ks : List ℕ) → IsSystem s → Walks s i ks j
    → (unsigned_abs (sum_w s ks) ≤ 10000000 * length ks) × (unsigned_abs (sum_q s ks) ≤ 1000000000 * length ks)
sums_within s i j [] valid h = (omega (arith, ints), omega (arith, ints))
sums_within s i j (k ∷ ks) valid h =
    let rest = sums_within s (arc s k).to j ks valid h.2 in
    let sizes = valid.sizes k h.0 in
    (omega (arith, ints, rest.0, sizes.0), omega (arith, ints, rest.1, sizes.1))

pub sums_small : (s : SystemData) (walk : WalkData) → IsSystem s → IsClosedWalk s walk → HasSmallSums walk
sums_small s walk valid closed =
    let within = sums_within s closed.node closed.node walk.arcs valid closed.leads in
    (omega (arith, ints, within.0, closed.few, closed.w), omega (arith, ints, within.1, closed.few, closed.q))
