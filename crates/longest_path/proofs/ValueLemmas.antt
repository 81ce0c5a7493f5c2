-- Rows after m rounds: each number is the greatest of a walk, and how they grow.
use Rattle.std.proofs.Common.{◌≡◌, ℕ, zero, suc, ◌+◌, ◌*◌, ◌<◌, ◌≤◌, ◌⊎◌, inl, inr, ⊎_elim, List, [], ◌∷◌, length, refl, sym, ap, ◌∙◌, ℤ, pos, negsuc, ◌+ℤ◌, ◌*ℤ◌, ◌≤ℤ◌, cond, arith}
use Rattle.std.specs.Prelude.{unsigned_abs}
use Rattle.std.specs.Int.{int_max}
use Rattle.std.proofs.lemmas.Int.{ints, clamps, by_lt_z}
use Rattle.std.proofs.lemmas.Bool.{cases_eq, eq-eqb, ne_eqb}
use Rattle.std.proofs.lemmas.Nat.{mul-le}
use Rattle.longest_path.specs.System.{SystemData, IsSystem, arc, Leads}
use Rattle.longest_path.specs.Rounds.{weights_at, walk_weight, IsValueFrom, brought, value_from}

pub brought_to : (s : SystemData) (wt row : ℕ → ℤ) (i n : ℕ) → (arc s n).to ≡ i
    → brought s wt row i (suc n) ≡ int_max (brought s wt row i n) (row (arc s n).from +ℤ wt n)
brought_to s wt row i n e =
    ap (λ b. cond b (int_max (brought s wt row i n) (row (arc s n).from +ℤ wt n)) (brought s wt row i n)) (eq-eqb (arc s n).to i e)

pub brought_other : (s : SystemData) (wt row : ℕ → ℤ) (i n : ℕ) → ((arc s n).to ≡ i → ⊥)
    → brought s wt row i (suc n) ≡ brought s wt row i n
brought_other s wt row i n ne =
    ap (λ b. cond b (int_max (brought s wt row i n) (row (arc s n).from +ℤ wt n)) (brought s wt row i n)) (ne_eqb (arc s n).to i ne)

-- no less than before
pub keeps : (s : SystemData) (wt row : ℕ → ℤ) (i n : ℕ) → row i ≤ℤ brought s wt row i n
keeps s wt row i zero = omega (arith, ints)
keeps s wt row i (suc n) =
    ⊎_elim
    (λ e. omega (arith, ints, clamps, brought_to s wt row i n e, keeps s wt row i n))
    (λ ne. omega (arith, ints, brought_other s wt row i n ne, keeps s wt row i n))
    (cases_eq (arc s n).to i)

-- no less than what each constraint brings
pub brings : (s : SystemData) (wt row : ℕ → ℤ) (i n k : ℕ) → k < n → (arc s k).to ≡ i
    → (row (arc s k).from +ℤ wt k) ≤ℤ brought s wt row i n
brings s wt row i zero k lt to = absurd (omega (arith, lt))
brings s wt row i (suc n) k lt to =
    ⊎_elim
    (λ e.
    let at : (arc s n).to ≡ i = ap (λ x. (arc s x).to) (sym e) ∙ to in
    let same : row (arc s k).from +ℤ wt k ≡ row (arc s n).from +ℤ wt n = ap (λ x. row (arc s x).from +ℤ wt x) e in
    omega (arith, ints, clamps, brought_to s wt row i n at, same))
    (λ ne.
    let before = brings s wt row i n k (omega (arith, lt, ne)) to in
    ⊎_elim
    (λ e. omega (arith, ints, clamps, brought_to s wt row i n e, before))
    (λ other. omega (arith, ints, brought_other s wt row i n other, before))
    (cases_eq (arc s n).to i))
    (cases_eq k n)

abbrev pub Brings : SystemData → (ℕ → ℤ) → (ℕ → ℤ) → ℕ → ℕ → ℕ → Type 0
Brings s wt row i n k = (k < n) × ((arc s k).to ≡ i) × (row (arc s k).from +ℤ wt k ≡ brought s wt row i n)

-- and one of these
pub is_brought : (s : SystemData) (wt row : ℕ → ℤ) (i n : ℕ)
    → (brought s wt row i n ≡ row i) ⊎ ((k : ℕ) × Brings s wt row i n k)
is_brought s wt row i zero = inl refl
is_brought s wt row i (suc n) =
    let before = is_brought s wt row i n in
    ⊎_elim
    (λ e.
    let is = brought_to s wt row i n e in
    by_lt_z (brought s wt row i n) (row (arc s n).from +ℤ wt n)
    (λ lt. inr (n, (omega arith, e, omega (arith, ints, clamps, is, lt))))
    (λ le.
    let kept : brought s wt row i (suc n) ≡ brought s wt row i n = omega (arith, ints, clamps, is, le) in
    ⊎_elim (λ same. inl (kept ∙ same)) (λ (k, (lt, to, sum)). inr (k, (omega (arith, lt), to, sum ∙ sym kept))) before))
    (λ ne.
    let kept = brought_other s wt row i n ne in
    ⊎_elim (λ same. inl (kept ∙ same)) (λ (k, (lt, to, sum)). inr (k, (omega (arith, lt), to, sum ∙ sym kept))) before)
    (cases_eq (arc s n).to i)

pub brought_small : (s : SystemData) (wt row : ℕ → ℤ) (i n a b : ℕ) → ((j : ℕ) → unsigned_abs (row j) ≤ a)
    → ((k : ℕ) → unsigned_abs (wt k) ≤ b) → unsigned_abs (brought s wt row i n) ≤ a + b
brought_small s wt row i n a b h g =
    ⊎_elim
    (λ same. omega (arith, ints, same, h i))
    (λ (k, (lt, to, sum)). omega (arith, ints, sum, h (arc s k).from, g k))
    (is_brought s wt row i n)

-- the same rows and weights bring the same
pub brought_same : (s : SystemData) (wt row wt' row' : ℕ → ℤ) (i n : ℕ) → row i ≡ row' i
    → ((k : ℕ) → k < n → row (arc s k).from +ℤ wt k ≡ row' (arc s k).from +ℤ wt' k)
    → brought s wt row i n ≡ brought s wt' row' i n
brought_same s wt row wt' row' i zero e h = e
brought_same s wt row wt' row' i (suc n) e h =
    let before = brought_same s wt row wt' row' i n e (λ k lt. h k (omega (arith, lt))) in
    let now = h n (omega arith) in
    ⊎_elim
    (λ to. omega (arith, ints, clamps, brought_to s wt row i n to, brought_to s wt' row' i n to, before, now))
    (λ ne. brought_other s wt row i n ne ∙ before ∙ sym (brought_other s wt' row' i n ne))
    (cases_eq (arc s n).to i)

-- ---- rows
pub from_keeps : (s : SystemData) (wt first : ℕ → ℤ) (m i : ℕ)
    → value_from s wt first m i ≤ℤ value_from s wt first (suc m) i
from_keeps s wt first m i = keeps s wt (value_from s wt first m) i (length s.arcs)

from_first : (s : SystemData) (wt first : ℕ → ℤ) (m i : ℕ) → first i ≤ℤ value_from s wt first m i
from_first s wt first zero i = omega (arith, ints)
from_first s wt first (suc m) i = omega (arith, ints, from_keeps s wt first m i, from_first s wt first m i)

pub from_brings : (s : SystemData) (wt first : ℕ → ℤ) (m k : ℕ) → k < length s.arcs
    → (value_from s wt first m (arc s k).from +ℤ wt k) ≤ℤ value_from s wt first (suc m) (arc s k).to
from_brings s wt first m k lt = brings s wt (value_from s wt first m) (arc s k).to (length s.arcs) k lt refl

pub from_most : (s : SystemData) (wt first : ℕ → ℤ) (m i from : ℕ) (ks : List ℕ) → length ks ≤ m → Leads s from ks i
    → (first from +ℤ walk_weight wt ks) ≤ℤ value_from s wt first m i
from_most s wt first m i from [] le walk =
    let e : first from ≡ first i = ap first walk in
    omega (arith, ints, e, from_first s wt first m i)
from_most s wt first zero i from (k ∷ ks) le walk = absurd (omega (arith, le))
from_most s wt first (suc m) i from (k ∷ ks) le walk =
    let before = from_most s wt first m (arc s k).from from ks (omega (arith, le)) walk.2 in
    let e : value_from s wt first (suc m) (arc s k).to ≡ value_from s wt first (suc m) i = ap (value_from s wt first (suc m)) walk.1 in
    omega (arith, ints, before, from_brings s wt first m k walk.0, e)

pub from_some : (s : SystemData) (wt first : ℕ → ℤ) (m i : ℕ)
    → (from : ℕ) × (ks : List ℕ) × (length ks ≤ m) × Leads s from ks i × (first from +ℤ walk_weight wt ks ≡ value_from s wt first m i)
from_some s wt first zero i = (i, [], omega arith, refl, omega (arith, ints))
from_some s wt first (suc m) i =
    ⊎_elim
    (λ same. let (from, ks, le, walk, sum) = from_some s wt first m i in (from, ks, omega (arith, le), walk, sum ∙ sym same))
    (λ (k, (lt, to, is)). let (from, ks, le, walk, sum) = from_some s wt first m
    (arc s k).from in (from, k ∷ ks, omega (arith, le), (lt, to, walk), omega (arith, ints, sum, is)))
    (is_brought s wt (value_from s wt first m) i (length s.arcs))

-- the rounds give the greatest numbers of walks
pub is_value_from : (s : SystemData) (wt first : ℕ → ℤ) (m i : ℕ)
    → IsValueFrom s wt first m i (value_from s wt first m i)
is_value_from s wt first m i = record { some = from_some s wt first m i; most = λ from ks le walk. from_most s wt first m i from ks le walk }

-- ---- growth
pub from_at : (s : SystemData) (wt first : ℕ → ℤ) (m n i : ℕ) → m ≡ n
    → value_from s wt first m i ≡ value_from s wt first n i
from_at s wt first m n i e = ap (λ x. value_from s wt first x i) e

pub from_rises : (s : SystemData) (wt first : ℕ → ℤ) (m d i : ℕ)
    → value_from s wt first m i ≤ℤ value_from s wt first (m + d) i
from_rises s wt first m zero i = omega (arith, ints, from_at s wt first (m + 0) m i (omega arith))
from_rises s wt first m (suc d) i =
    omega (arith, ints, from_at s wt first (m + suc d) (suc (m + d)) i (omega arith), from_rises s wt first m d i, from_keeps s wt first (m + d) i)

-- a round that changes no node leaves all later rounds the same
pub from_still : (s : SystemData) (wt first : ℕ → ℤ) (m d : ℕ) → IsSystem s
    → ((i : ℕ) → i < s.nodes → value_from s wt first (suc m) i ≡ value_from s wt first m i) → (i : ℕ) → i < s.nodes
    → value_from s wt first (suc (m + d)) i ≡ value_from s wt first (m + d) i
from_still s wt first m zero valid same i p =
    from_at s wt first (suc (m + 0)) (suc m) i (omega arith) ∙ same i p ∙ from_at s wt first m (m + 0) i (omega arith)
from_still s wt first m (suc d) valid same i p =
    let before = from_still s wt first m d valid same in
    from_at s wt first (suc (m + suc d)) (suc (suc (m + d))) i (omega arith)
    ∙ brought_same s wt (value_from s wt first (suc (m + d))) wt (value_from s wt first (m + d)) i (length s.arcs)
    (before i p) (λ k lt. ap (λ z. z +ℤ wt k) (before (arc s k).from (valid.ends k lt).0))
    ∙ from_at s wt first (suc (m + d)) (m + suc d) i (omega arith)

pub from_stays : (s : SystemData) (wt first : ℕ → ℤ) (m d : ℕ) → IsSystem s
    → ((i : ℕ) → i < s.nodes → value_from s wt first (suc m) i ≡ value_from s wt first m i) → (i : ℕ) → i < s.nodes
    → value_from s wt first (m + d) i ≡ value_from s wt first m i
from_stays s wt first m zero valid same i p = from_at s wt first (m + 0) m i (omega arith)
from_stays s wt first m (suc d) valid same i p =
    from_at s wt first (m + suc d) (suc (m + d)) i (omega arith) ∙ from_still s wt first m d valid same i p ∙ from_stays s wt first m d valid same i p

-- the same first row gives the same rows
pub from_alike : (s : SystemData) (wt first other : ℕ → ℤ) (m i : ℕ) → IsSystem s
    → ((j : ℕ) → j < s.nodes → first j ≡ other j) → i < s.nodes → value_from s wt first m i ≡ value_from s wt other m i
from_alike s wt first other zero i valid same p = same i p
from_alike s wt first other (suc m) i valid same p =
    brought_same s wt (value_from s wt first m) wt (value_from s wt other m) i (length s.arcs) (from_alike s wt first other m i valid same p)
    (λ k lt. ap (λ z. z +ℤ wt k) (from_alike s wt first other m (arc s k).from valid same (valid.ends k lt).0))

-- ---- sizes
-- where a walk begins
pub begins_below : (s : SystemData) (i j : ℕ) (ks : List ℕ) → IsSystem s → j < s.nodes → Leads s i ks j → i < s.nodes
begins_below s i j [] valid p h = omega (arith, h, p)
begins_below s i j (k ∷ ks) valid p h = begins_below s i (arc s k).from ks valid (valid.ends k h.0).0 h.2

-- a walk weighs no more than w for each of its constraints
pub weighs_within : (s : SystemData) (wt : ℕ → ℤ) (w i j : ℕ) (ks : List ℕ)
    → ((k : ℕ) → k < length s.arcs → unsigned_abs (wt k) ≤ w) → Leads s i ks j
    → unsigned_abs (walk_weight wt ks) ≤ length ks * w
weighs_within s wt w i j [] within h = omega (arith, ints)
weighs_within s wt w i j (k ∷ ks) within h =
    omega (arith, ints, weighs_within s wt w i (arc s k).from ks within h.2, within k h.0)

pub from_within : (s : SystemData) (wt first : ℕ → ℤ) (w b m i : ℕ) → IsSystem s
    → ((k : ℕ) → k < length s.arcs → unsigned_abs (wt k) ≤ w) → ((j : ℕ) → j < s.nodes → unsigned_abs (first j) ≤ b)
    → i < s.nodes → unsigned_abs (value_from s wt first m i) ≤ b + m * w
from_within s wt first w b m i valid within small p =
    let (from, ks, le, walk, sum) = from_some s wt first m i in
    let weighs = weighs_within s wt w from i ks within walk in
    omega (arith, ints, sum, weighs, small from (begins_below s from i ks valid p walk), mul-le (length ks) w m w le (omega arith))

pub product_small : (a : ℤ) (n m : ℕ) → unsigned_abs a ≤ m → unsigned_abs (a *ℤ pos n) ≤ m * n
product_small (pos x) n m h = mul-le x n m n h (omega arith)
product_small (negsuc x) n m h = omega (arith, ints, mul-le (suc x) n m n h (omega arith))

pub weight_small : (s : SystemData) (period k : ℕ) → IsSystem s → period ≤ 20001 → k < length s.arcs
    → unsigned_abs (weights_at s period k) ≤ 20001010000000
weight_small s period k valid p h =
    let b = product_small (arc s k).q period 1000000000 (valid.sizes k h).1 in
    omega (arith, ints, b, (valid.sizes k h).0)

pub from_small : (s : SystemData) (period : ℕ) (first : ℕ → ℤ) (m i : ℕ) → IsSystem s → period ≤ 20001 → m ≤ 124
    → ((j : ℕ) → j < s.nodes → unsigned_abs (first j) ≤ 10000000000000000) → i < s.nodes
    → unsigned_abs (value_from s (weights_at s period) first m i) ≤ 20000000000000000
from_small s period first m i valid p le small i_in =
    omega (
      arith,
      from_within s (weights_at s period) first 20001010000000 10000000000000000 m i valid
          (λ k lt. weight_small s period k valid p lt) small i_in,
      le,
    )
