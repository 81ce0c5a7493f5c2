-- From what the code found to the canonical walk.
use Rattle.std.proofs.Common.{◌≡◌, ℕ, ◌-◌, ◌<◌, List, sym, ap, ◌∙◌, ℤ, arith}
use Rattle.std.specs.Prelude.{int_lt, slice_index}
use Rattle.std.proofs.lemmas.Int.{ints}
use Rattle.longest_path.specs.System.{SystemData}
use Rattle.longest_path.specs.Rounds.{weights_at, cell}
use Rattle.cycle_walk.specs.Values.{value, AreValues}
use Rattle.cycle_walk.specs.Closed.{first_below, first_risen, first_same, first_again, node_back, arc_back, back_to, arcs_from, Rises}
use Rattle.cycle_walk.specs.Trail.{IsTrail}
use Rattle.cycle_walk.proofs.FirstLemmas.{first_some, first_alike, loop_is, lt_true, true_lt}
use Rattle.cycle_walk.proofs.BackLemmas.{back_same}

-- the first node that grew in the table is the first that grows
pub start_is : (s : SystemData) (period n start : ℕ) (rows : List ℤ) → AreValues s period s.nodes rows → n ≡ s.nodes
    → start ≡ first_below (λ i. int_lt (cell n rows (n - 1) i) (cell n rows n i)) n
    → start ≡ first_risen s (weights_at s period)
start_is s period n start rows h e is =
    let wt = weights_at s period in
    let k = s.nodes in
    is
    ∙ ap (λ x. first_below (λ i. int_lt (cell x rows (x - 1) i) (cell x rows x i)) x) e
    ∙ first_alike (λ i. int_lt (cell k rows (k - 1) i) (cell k rows k i)) (λ i. int_lt (value s wt (k - 1) i) (value s wt k i)) k
    (λ i p. ap (λ z. int_lt z (cell k rows k i)) (h.is (k - 1) i (omega arith) p) ∙ ap (λ z. int_lt (value s wt (k - 1) i) z) (h.is k i (omega arith) p))

pub start_rises : (s : SystemData) (period start i : ℕ) → start ≡ first_risen s (weights_at s period) → i < s.nodes
    → Rises s (weights_at s period) i → (start < s.nodes) × Rises s (weights_at s period) start
start_rises s period start i is p rises =
    let wt = weights_at s period in
    let f = first_risen s wt in
    let (lt, found, before) = first_some (λ j. int_lt (value s wt (s.nodes - 1) j) (value s wt s.nodes j)) s.nodes i p
    (true_lt (value s wt (s.nodes - 1) i) (value s wt s.nodes i) rises) in
    let at : Rises s wt f = lt_true (value s wt (s.nodes - 1) f) (value s wt s.nodes f) found in
    (omega (arith, is, lt), omega (arith, ints, at, ap (value s wt (s.nodes - 1)) is, ap (value s wt s.nodes) is))

-- the trail has the constraints of the canonical walk
pub trail_walk : (s : SystemData) (period start first end : ℕ) (arcs : List ℕ) → IsTrail s period start arcs first end
    → back_to (slice_index arcs) first (end - first) ≡ arcs_from s (weights_at s period) start
trail_walk s period start first end arcs h =
    let wt = weights_at s period in
    let f = node_back s wt start in
    let b = first_again f s.nodes in
    let order : first < end = h.loop.order in
    let (is_b, is_a) = loop_is f s.nodes first end h.loop in
    let same_a : first_same f b ≡ first = ap (first_same f) is_b ∙ is_a in
    back_same (slice_index arcs) (arc_back s wt start) first (end - first) (λ x lt. h.is x (omega (arith, lt, order)))
    ∙ ap (λ y. back_to (arc_back s wt start) first (y - first)) (sym is_b)
    ∙ ap (λ x. back_to (arc_back s wt start) x (b - x)) (sym same_a)
