-- Walks of a system that has a solution: no closed walk gains, so short walks are enough.
use Rattle.std.proofs.Common.{◌≡◌, ℕ, zero, suc, ◌<◌, ◌≤◌, ⊎_elim, List, [], ◌∷◌, length, drop, length-drop, refl, sym, ap, ◌∙◌, ℤ, pos, ◌+ℤ◌, ◌*ℤ◌, ◌≤ℤ◌, arith}
use Rattle.std.proofs.lemmas.Int.{ints}
use Rattle.std.proofs.lemmas.Bool.{cases_lt}
use Rattle.list_facts.proofs.Products.{times_add}
use Rattle.longest_path.specs.System.{SystemData, IsSystem, arc, Solves, Leads, sum_w, sum_q, Refutes}
use Rattle.longest_path.specs.Rounds.{weights_at, walk_weight}
use Rattle.longest_path.proofs.Walks.{pigeonhole}

-- the ticks t meet constraints of these weights
abbrev pub Meets : SystemData → (ℕ → ℤ) → (ℕ → ℤ) → Type 0
Meets s wt t = (k : ℕ) → k < length s.arcs → (t (arc s k).from +ℤ wt k) ≤ℤ t (arc s k).to

-- where a walk from i ends
abbrev pub end_of : SystemData → ℕ → List ℕ → ℕ
end_of s i [] = i
end_of s i (k ∷ ks) = (arc s k).to

pub end_is : (s : SystemData) (i j : ℕ) (ks : List ℕ) → Leads s i ks j → end_of s i ks ≡ j
end_is s i j [] h = h
end_is s i j (k ∷ ks) h = h.1

end_below : (s : SystemData) (i j : ℕ) (ks : List ℕ) → IsSystem s → i < s.nodes → Leads s i ks j
    → end_of s i ks < s.nodes
end_below s i j [] valid p h = p
end_below s i j (k ∷ ks) valid p h = (valid.ends k h.0).1

leads-drop : (s : SystemData) (i j : ℕ) (m : ℕ) (ks : List ℕ) → Leads s i ks j
    → Leads s i (drop m ks) (end_of s i (drop m ks))
leads-drop s i j zero [] h = refl
leads-drop s i j zero (k ∷ ks) h = (h.0, refl, h.2)
leads-drop s i j (suc m) [] h = refl
leads-drop s i j (suc m) (k ∷ ks) h = leads-drop s i (arc s k).from m ks h.2

-- a walk's weight is bounded by what any solution says of its ends
pub walk_bound : (s : SystemData) (wt : ℕ → ℤ) (t : ℕ → ℤ) (i j : ℕ) (ks : List ℕ) → Meets s wt t → Leads s i ks j
    → (t i +ℤ walk_weight wt ks) ≤ℤ t j
walk_bound s wt t i j [] solves h = let e : t i ≡ t j = ap t h in omega (arith, ints)
walk_bound s wt t i j (k ∷ ks) solves h =
    let e : t (arc s k).to ≡ t j = ap t h.1 in
    omega (arith, ints, walk_bound s wt t i (arc s k).from ks solves h.2, solves k h.0)

-- the same from a place on the walk on
part_bound : (s : SystemData) (wt : ℕ → ℤ) (t : ℕ → ℤ) (i j : ℕ) (m : ℕ) (ks : List ℕ) → Meets s wt t → Leads s i ks j
    → (t (end_of s i (drop m ks)) +ℤ walk_weight wt ks) ≤ℤ (t j +ℤ walk_weight wt (drop m ks))
part_bound s wt t i j zero [] solves h = let e : t i ≡ t j = ap t h in omega (arith, ints)
part_bound s wt t i j zero (k ∷ ks) solves h = let e : t (arc s k).to ≡ t j = ap t h.1 in omega (arith, ints)
part_bound s wt t i j (suc m) [] solves h = let e : t i ≡ t j = ap t h in omega (arith, ints)
part_bound s wt t i j (suc m) (k ∷ ks) solves h =
    let e : t (arc s k).to ≡ t j = ap t h.1 in
    omega (arith, ints, part_bound s wt t i (arc s k).from m ks solves h.2, solves k h.0)

abbrev Shorter : SystemData → (ℕ → ℤ) → ℕ → ℕ → List ℕ → Type 0
Shorter s wt i j ks =
    (bs : List ℕ) × Leads s i bs j × (length bs < length ks) × (walk_weight wt ks ≤ℤ walk_weight wt bs)

-- a walk that meets one node twice can leave out what lies between
shorten : (s : SystemData) (wt : ℕ → ℤ) (t : ℕ → ℤ) (i j : ℕ) (a b : ℕ) (ks : List ℕ) → Meets s wt t → Leads s i ks j
    → a < b → b ≤ length ks → end_of s i (drop a ks) ≡ end_of s i (drop b ks) → Shorter s wt i j ks
shorten s wt t i j a zero ks solves h p q e = absurd (omega (arith, p))
shorten s wt t i j zero (suc b) [] solves h p q e = absurd (omega (arith, q))
shorten s wt t i j zero (suc b) (k ∷ ks) solves h p q e =
    let at_end : j ≡ end_of s i (drop b ks) = sym h.1 ∙ e in
    let bound = part_bound s wt t i j (suc b) (k ∷ ks) solves h in
    let same : t j ≡ t (end_of s i (drop b ks)) = ap t at_end in
    (drop b ks, rw at_end (leads-drop s i (arc s k).from b ks h.2), omega (arith, length-drop b ks), omega (arith, ints, bound, same))
shorten s wt t i j (suc a) (suc b) [] solves h p q e = absurd (omega (arith, q))
shorten s wt t i j (suc a) (suc b) (k ∷ ks) solves h p q e =
    let r = shorten s wt t i (arc s k).from a b ks solves h.2 (omega (arith, p)) (omega (arith, q)) e in
    (k ∷ r.0, (h.0, h.1, r.1), omega (arith, r.2), omega (arith, ints, r.3))

abbrev Short : SystemData → (ℕ → ℤ) → ℕ → ℕ → List ℕ → Type 0
Short s wt i j ks =
    (bs : List ℕ) × Leads s i bs j × (length bs < s.nodes) × (walk_weight wt ks ≤ℤ walk_weight wt bs)

short_by : (s : SystemData) (wt : ℕ → ℤ) (t : ℕ → ℤ) (i j : ℕ) (fuel : ℕ) (ks : List ℕ) → IsSystem s → i < s.nodes
    → Meets s wt t → Leads s i ks j → length ks ≤ fuel → Short s wt i j ks
short_by s wt t i j zero ks valid p solves h le = (ks, h, omega (arith, le, valid.nodes.0), omega (arith, ints))
short_by s wt t i j (suc fuel) ks valid p solves h le =
    ⊎_elim
    (λ lt. (ks, h, lt, omega (arith, ints)))
    (λ ge.
    let r = pigeonhole s.nodes (λ m. end_of s i (drop m ks)) (λ m q. end_below s i (end_of s i (drop m ks)) (drop m ks) valid p (leads-drop s i j m ks h)) in
    let c = shorten s wt t i j r.0 r.1 ks solves h r.2 (omega (arith, r.3, ge)) r.4 in
    let d = short_by s wt t i j fuel c.0 valid p solves c.1 (omega (arith, c.2, le)) in
    (d.0, d.1, d.2, omega (arith, ints, c.3, d.3)))
    (cases_lt (length ks) s.nodes)

-- every walk has one of fewer constraints than nodes that weighs as much
pub short_enough : (s : SystemData) (wt : ℕ → ℤ) (t : ℕ → ℤ) (i j : ℕ) (ks : List ℕ) → IsSystem s → i < s.nodes
    → Meets s wt t → Leads s i ks j
    → (bs : List ℕ) × Leads s i bs j × (length bs < s.nodes) × (walk_weight wt ks ≤ℤ walk_weight wt bs)
short_enough s wt t i j ks valid p solves h = short_by s wt t i j (length ks) ks valid p solves h (omega arith)

-- the weight by the two sums
pub weighs_sums : (s : SystemData) (period : ℕ) (ks : List ℕ)
    → walk_weight (weights_at s period) ks ≡ sum_w s ks +ℤ sum_q s ks *ℤ pos period
weighs_sums s period [] = omega (arith, ints)
weighs_sums s period (k ∷ ks) = omega (arith, ints, weighs_sums s period ks, times_add (sum_q s ks) (arc s k).q period)

-- a closed walk that gains shows that there is no solution
pub refuted : (s : SystemData) (period : ℕ) (i : ℕ) (ks : List ℕ) (t : ℕ → ℤ) → Leads s i ks i
    → Refutes (sum_w s ks) (sum_q s ks) period → Solves s period t → ⊥
refuted s period i ks t walk gains solves = omega (arith, ints, walk_bound s (weights_at s period) t i i ks solves walk, weighs_sums s period ks, gains)
