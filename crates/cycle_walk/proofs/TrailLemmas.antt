-- Going back from a node whose value grows in the last round.
use Rattle.std.proofs.Common.{◌≡◌, ℕ, zero, suc, ◌+◌, ◌-◌, ◌<◌, ◌≤◌, ⊎_elim, length, sym, ap, subst, ◌∙◌, true, ℤ, pos, ◌+ℤ◌, ◌<ℤ◌, arith}
use Rattle.std.proofs.lemmas.Int.{ints}
use Rattle.std.proofs.lemmas.Bool.{eq-eqb, eqb-true, and_from, and_parts}
use Rattle.std.proofs.lemmas.Bool.Decides.{Decides-int_eq}
use Rattle.longest_path.specs.System.{SystemData, IsSystem, arc}
use Rattle.longest_path.proofs.Walks.{pigeonhole}
use Rattle.longest_path.specs.Rounds.{walk_weight}
use Rattle.cycle_walk.specs.Values.{value}
use Rattle.cycle_walk.specs.Closed.{fits, first_fit, node_back, arc_back, first_same, first_again, back_to, Walks, IsLoop, Rises}
use Rattle.longest_path.proofs.ValueLemmas.{is_brought}
use Rattle.cycle_walk.proofs.ValueLemmas.{value_brings, value_at, value_rises}
use Rattle.cycle_walk.proofs.FirstLemmas.{IsFirst, first_some, loop_of}

abbrev pub Grows : SystemData → (ℕ → ℤ) → ℕ → ℕ → Type 0
Grows s wt m i = value s wt m i <ℤ value s wt (suc m) i

-- constraint k ends at node j and brings it its value of m + 1
abbrev pub Fits : SystemData → (ℕ → ℤ) → ℕ → ℕ → ℕ → Type 0
Fits s wt m j k = ((arc s k).to ≡ j) × (value s wt m (arc s k).from +ℤ wt k ≡ value s wt (suc m) j)

pub fits_true : (s : SystemData) (wt : ℕ → ℤ) (m j k : ℕ) → Fits s wt m j k → fits s wt m j k ≡ true
fits_true s wt m j k (to, sum) =
    and_from _ _ (eq-eqb (arc s k).to j to) ((Decides-int_eq (value s wt m (arc s k).from +ℤ wt k) (value s wt (suc m) j)).1 sum)

pub fits_holds : (s : SystemData) (wt : ℕ → ℤ) (m j k : ℕ) → fits s wt m j k ≡ true → Fits s wt m j k
fits_holds s wt m j k e =
    let parts = and_parts _ _ e in
    (eqb-true (arc s k).to j parts.0, (Decides-int_eq (value s wt m (arc s k).from +ℤ wt k) (value s wt (suc m) j)).0 parts.1)

-- a value that grows comes along a constraint
pub fit_found : (s : SystemData) (wt : ℕ → ℤ) (m j : ℕ) → Grows s wt m j
    → IsFirst (fits s wt m j) (length s.arcs) (first_fit s wt m j)
fit_found s wt m j grows =
    ⊎_elim
    (λ same. absurd (omega (arith, ints, grows, same)))
    (λ (k, (lt, to, sum)). first_some (fits s wt m j) (length s.arcs) k lt (fits_true s wt m j k (to, sum)))
    (is_brought s wt (value s wt m) j (length s.arcs))

abbrev pub IsStep : SystemData → (ℕ → ℤ) → ℕ → ℕ → Type 0
IsStep s wt i t =
    (arc_back s wt i t < length s.arcs) × Fits s wt (s.nodes - suc t) (node_back s wt i t) (arc_back s wt i t)

step_by : (s : SystemData) (wt : ℕ → ℤ) (i t : ℕ) → Grows s wt (s.nodes - suc t) (node_back s wt i t) → IsStep s wt i t
step_by s wt i t grows =
    let (lt, found, before) = fit_found s wt (s.nodes - suc t) (node_back s wt i t) grows in
    (lt, fits_holds s wt (s.nodes - suc t) (node_back s wt i t) (arc_back s wt i t) found)

-- so does each node on the way, in its round
pub grows_at : (s : SystemData) (wt : ℕ → ℤ) (i t m : ℕ) → Rises s wt i → t + suc m ≡ s.nodes
    → Grows s wt m (node_back s wt i t)
grows_at s wt i zero m rises e =
    omega (arith, ints, rises, value_at s wt (s.nodes - 1) m i (omega (arith, e)), value_at s wt s.nodes (suc m) i (omega (arith, e)))
grows_at s wt i (suc t) m rises e =
    let l = s.nodes - suc t in
    let le : l ≡ suc m = omega (arith, e) in
    let j = node_back s wt i t in
    let grows : Grows s wt l j = grows_at s wt i t l rises (omega (arith, e)) in
    let (lt, (to, sum)) = step_by s wt i t grows in
    let before = value_brings s wt m (arc_back s wt i t) lt in
    let at_j : value s wt (suc m) (arc s (arc_back s wt i t)).to ≡ value s wt (suc m) j = ap (value s wt (suc m)) to in
    omega (arith, ints, grows, sum, before, at_j, value_at s wt l (suc m) j le, value_at s wt l (suc m) (node_back s wt i (suc t)) le)

pub step_at : (s : SystemData) (wt : ℕ → ℤ) (i t : ℕ) → Rises s wt i → t < s.nodes → IsStep s wt i t
step_at s wt i t rises lt = step_by s wt i t (grows_at s wt i t (s.nodes - suc t) rises (omega (arith, lt)))

pub node_below : (s : SystemData) (wt : ℕ → ℤ) (i t : ℕ) → IsSystem s → i < s.nodes → Rises s wt i → t ≤ s.nodes
    → node_back s wt i t < s.nodes
node_below s wt i zero valid p rises le = p
node_below s wt i (suc t) valid p rises le =
    (valid.ends (arc_back s wt i t) (step_at s wt i t rises (omega (arith, le))).0).0

-- a node comes for the second time
pub has_loop : (s : SystemData) (wt : ℕ → ℤ) (i : ℕ) → IsSystem s → i < s.nodes → Rises s wt i
    → IsLoop (node_back s wt i) s.nodes (first_same (node_back s wt i) (first_again (node_back s wt i) s.nodes)) (first_again (node_back s wt i) s.nodes)
has_loop s wt i valid p rises =
    let (x, t, lt, le, e) = pigeonhole s.nodes (node_back s wt i) (λ k q. node_below s wt i k valid p rises q) in
    loop_of (node_back s wt i) s.nodes x t lt le e

-- the steps from a + c down to a as a walk
pub back_leads : (s : SystemData) (wt : ℕ → ℤ) (i a c : ℕ) → Rises s wt i → a + c ≤ s.nodes
    → Walks s (node_back s wt i (a + c)) (back_to (arc_back s wt i) a c) (node_back s wt i a)
back_leads s wt i a zero rises le = let e : a + 0 ≡ a = omega arith in ap (node_back s wt i) e
back_leads s wt i a (suc c) rises le =
    let (lt, (to, sum)) = step_at s wt i (a + c) rises (omega (arith, le)) in
    let e : suc (a + c) ≡ a + suc c = omega arith in
    let rest = back_leads s wt i a c rises (omega (arith, le)) in
    (lt, ap (node_back s wt i) e, subst (λ j. Walks s j (back_to (arc_back s wt i) a c) (node_back s wt i a)) (sym to) rest)

pub back_weighs : (s : SystemData) (wt : ℕ → ℤ) (i a c : ℕ) → Rises s wt i → a + c ≤ s.nodes
    → value s wt (s.nodes - (a + c)) (node_back s wt i (a + c)) +ℤ walk_weight wt (back_to (arc_back s wt i) a c)
    ≡ value s wt (s.nodes - a) (node_back s wt i a)
back_weighs s wt i a zero rises le =
    let e : a + 0 ≡ a = omega arith in
    let f = ap (λ t. value s wt (s.nodes - t) (node_back s wt i t)) e in
    omega (arith, ints, f)
back_weighs s wt i a (suc c) rises le =
    let (lt, (to, sum)) = step_at s wt i (a + c) rises (omega (arith, le)) in
    let e : suc (a + c) ≡ a + suc c = omega arith in
    let f = ap (λ t. value s wt (s.nodes - t) (node_back s wt i t)) e in
    let g = value_at s wt (suc (s.nodes - suc (a + c))) (s.nodes - (a + c)) (node_back s wt i (a + c)) (omega (arith, le)) in
    omega (arith, ints, back_weighs s wt i a c rises (omega (arith, le)), f, g, sum)

-- a loop gains
pub loop_gains : (s : SystemData) (wt : ℕ → ℤ) (i a b : ℕ) → Rises s wt i → IsLoop (node_back s wt i) s.nodes a b
    → pos 0 <ℤ walk_weight wt (back_to (arc_back s wt i) a (b - a))
loop_gains s wt i a b rises loop =
    let le : b ≤ s.nodes = loop.within in
    let order : a < b = loop.order in
    let end : a + (b - a) ≡ b = omega (arith, order) in
    let weighs = back_weighs s wt i a (b - a) rises (omega (arith, order, le)) in
    let v = node_back s wt i a in
    let m = s.nodes - suc a in
    let at_end : value s wt (s.nodes - (a + (b - a))) (node_back s wt i (a + (b - a))) ≡ value s wt (s.nodes - b) v = ap
    (λ t. value s wt (s.nodes - t) (node_back s wt i t)) end ∙ ap (value s wt (s.nodes - b)) (sym loop.same) in
    let grows = grows_at s wt i a m rises (omega (arith, order, le)) in
    let top = value_at s wt (suc m) (s.nodes - a) v (omega (arith, order, le)) in
    let low = value_rises s wt (s.nodes - b) (b - suc a) v in
    let mid = value_at s wt (s.nodes - b + (b - suc a)) m v (omega (arith, order, le)) in
    omega (arith, ints, weighs, at_end, grows, top, low, mid)
