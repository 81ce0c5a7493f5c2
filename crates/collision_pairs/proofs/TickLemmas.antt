-- Two hoists, or one, over plain functions of ticks: the offsets at which they meet have no holes.
use Rattle.std.proofs.Common.{◌≡◌, ℕ, ◌+◌, ◌-◌, ◌<◌, ◌≤◌, max, ◌⊎◌, ◌↔◌, inl, inr, ⊎_elim, ℤ, pos, ◌+ℤ◌, ◌-ℤ◌, neg_ℤ, ◌<ℤ◌, ◌≤ℤ◌, arith}
use Rattle.std.specs.Prelude.{unsigned_abs}
use Rattle.std.specs.Int.{abs_diff}
use Rattle.std.proofs.lemmas.Int.{ints, by_lt_z}

abbrev pub Rises : (ℕ → ℕ) → Type 0
Rises A = (u w : ℕ) → u ≤ w → A u ≤ A w

abbrev pub Falls : (ℕ → ℕ) → Type 0
Falls A = (u w : ℕ) → u ≤ w → A w ≤ A u

-- between two ticks it is nowhere above both ends
abbrev pub HasNoHill : (ℕ → ℕ) → Type 0
HasNoHill B = (u v w : ℕ) → u ≤ v → v ≤ w → B v ≤ max (B u) (B w)

pub no_hill : (B : ℕ → ℕ) → Rises B ⊎ Falls B → HasNoHill B
no_hill B m u v w p q = ⊎_elim (λ r. omega (arith, r v w q)) (λ f. omega (arith, f u v p)) m

-- somewhere the second is below the first by more than the ticks between
abbrev pub Meet : (ℕ → ℕ) → (ℕ → ℕ) → ℕ → ℕ → ℤ → Type 0
Meet A B da db o = (u : ℕ) × (v : ℕ) × (u ≤ da) × (v ≤ db) × (B v + unsigned_abs (o +ℤ pos v -ℤ pos u) < A u)

-- at one tick the second is below the first
abbrev pub Centre : (ℕ → ℕ) → (ℕ → ℕ) → ℕ → ℕ → ℤ → Type 0
Centre A B da db o = (u : ℕ) × (v : ℕ) × (u ≤ da) × (v ≤ db) × (o +ℤ pos v ≡ pos u) × (B v < A u)

centre_rises : (A B : ℕ → ℕ) (da db u1 v1 u2 v2 : ℕ) (o : ℤ) → Rises A → HasNoHill B → u1 ≤ da → v1 ≤ db → u2 ≤ da
    → v2 ≤ db → B v1 < A u1 → B v2 < A u2 → pos u1 ≤ℤ (o +ℤ pos v1) → (o +ℤ pos v2) ≤ℤ pos u2 → Centre A B da db o
centre_rises A B da db u1 v1 u2 v2 o rises hill a1 b1 a2 b2 p1 p2 from to =
    by_lt_z (pos da) (o +ℤ pos v1)
    (λ far.
    let v : ℕ = unsigned_abs (pos da -ℤ o) in
    let e : o +ℤ pos v ≡ pos da = omega (arith, ints) in
    (da, v, omega arith, omega (arith, ints), e, omega (arith, ints, hill v2 v v1 (omega (arith, ints)) (omega (arith, ints)), rises u1 da a1, rises u2 da a2)))
    (λ near.
    let u : ℕ = unsigned_abs (o +ℤ pos v1) in
    let e : o +ℤ pos v1 ≡ pos u = omega (arith, ints) in
    (u, v1, omega (arith, ints), b1, e, omega (arith, ints, rises u1 u (omega (arith, ints)))))

centre_falls : (A B : ℕ → ℕ) (da db u1 v1 u2 v2 : ℕ) (o : ℤ) → Falls A → HasNoHill B → u1 ≤ da → v1 ≤ db → u2 ≤ da
    → v2 ≤ db → B v1 < A u1 → B v2 < A u2 → pos u1 ≤ℤ (o +ℤ pos v1) → (o +ℤ pos v2) ≤ℤ pos u2 → Centre A B da db o
centre_falls A B da db u1 v1 u2 v2 o falls hill a1 b1 a2 b2 p1 p2 from to =
    by_lt_z (o +ℤ pos v2) (pos 0)
    (λ far.
    let v : ℕ = unsigned_abs o in
    let e : o +ℤ pos v ≡ pos 0 = omega (arith, ints) in (
      0,
      v,
      omega arith,
      omega (arith, ints),
      e,
      omega (
        arith,
        ints,
        hill v2 v v1 (omega (arith, ints)) (omega (arith, ints)),
        falls 0 u1 (omega arith),
        falls 0 u2 (omega arith),
      ),
    ))
    (λ near.
    let u : ℕ = unsigned_abs (o +ℤ pos v2) in
    let e : o +ℤ pos v2 ≡ pos u = omega (arith, ints) in
    (u, v2, omega (arith, ints), b2, e, omega (arith, ints, falls u u2 (omega (arith, ints)))))

-- between the offsets of two such pairs of ticks there is a pair for every offset: along the first motion, and then
-- along the second
pub centre : (A B : ℕ → ℕ) (da db u1 v1 u2 v2 : ℕ) (o : ℤ) → Rises A ⊎ Falls A → HasNoHill B → u1 ≤ da → v1 ≤ db
    → u2 ≤ da → v2 ≤ db → B v1 < A u1 → B v2 < A u2 → pos u1 ≤ℤ (o +ℤ pos v1) → (o +ℤ pos v2) ≤ℤ pos u2
    → Centre A B da db o
centre A B da db u1 v1 u2 v2 o m hill a1 b1 a2 b2 p1 p2 from to =
    ⊎_elim (λ r. centre_rises A B da db u1 v1 u2 v2 o r hill a1 b1 a2 b2 p1 p2 from to)
    (λ f. centre_falls A B da db u1 v1 u2 v2 o f hill a1 b1 a2 b2 p1 p2 from to)
    m

-- at most one unit a tick
abbrev pub IsSlow : (ℕ → ℕ) → Type 0
IsSlow A = (u w : ℕ) → u ≤ w → (A w ≤ A u + (w - u)) × (A u ≤ A w + (w - u))

-- one hoist is at A for ticks 0 to da, and at B for ticks 0 to db from o later on
abbrev pub Once : (ℕ → ℕ) → (ℕ → ℕ) → ℕ → ℕ → ℤ → Type 0
Once A B da db o =
    ((u : ℕ) × (v : ℕ) × (u < da) × (v < db) × (o +ℤ pos v ≡ pos u))
    ⊎ ((u : ℕ) × (v : ℕ) × (u ≤ da) × (v ≤ db) × (unsigned_abs (o +ℤ pos v -ℤ pos u) < abs_diff (A u) (B v)))

once_inside : (A B : ℕ → ℕ) (da db : ℕ) (o : ℤ) → IsSlow A → IsSlow B → Once A B da db o
    → (neg_ℤ (pos (db + abs_diff (A 0) (B db))) <ℤ o) × (o <ℤ pos (da + abs_diff (B 0) (A da)))
once_inside A B da db o slow_a slow_b once =
    ⊎_elim
    (λ c. (omega (arith, ints, c.2, c.3, c.4), omega (arith, ints, c.2, c.3, c.4)))
    (λ c.
    let u = c.0 in
    let v = c.1 in
    let p = slow_a u da c.2 in
    let q = slow_a 0 u (omega arith) in
    let r = slow_b v db c.3 in
    let s = slow_b 0 v (omega arith) in
    (omega (arith, ints, c.4, p, q, r, s), omega (arith, ints, c.4, p, q, r, s)))
    once

once_all : (A B : ℕ → ℕ) (da db : ℕ) (o : ℤ) → 0 < da → 0 < db → neg_ℤ (pos (db + abs_diff (A 0) (B db))) <ℤ o
    → o <ℤ pos (da + abs_diff (B 0) (A da)) → Once A B da db o
once_all A B da db o a_lasts b_lasts low high =
    by_lt_z o (pos 0)
    (λ neg.
    let v : ℕ = unsigned_abs o in
    by_lt_z (pos v) (pos db)
    (λ in_carry. inl (0, v, a_lasts, omega (arith, ints), omega (arith, ints)))
    (λ past. inr (0, db, omega arith, omega arith, omega (arith, ints))))
    (λ nonneg.
    let u : ℕ = unsigned_abs o in
    by_lt_z (pos u) (pos da)
    (λ in_carry. inl (u, 0, omega (arith, ints), b_lasts, omega (arith, ints)))
    (λ past. inr (da, 0, omega arith, omega arith, omega (arith, ints))))

-- the offsets of one hoist's two motions, with names for the four ends
pub once_between : (A B : ℕ → ℕ) (da db a0 a1 b0 b1 : ℕ) (after before o : ℤ) → IsSlow A → IsSlow B → 0 < da → 0 < db
    → A 0 ≡ a0 → A da ≡ a1 → B 0 ≡ b0 → B db ≡ b1 → after ≡ pos (da + abs_diff b0 a1)
    → before ≡ pos (db + abs_diff a0 b1) → Once A B da db o ↔ ((neg_ℤ before <ℤ o) × (o <ℤ after))
once_between A B da db a0 a1 b0 b1 after before o slow_a slow_b p q e f g h i j = (
  λ once. let k = once_inside A B da db o slow_a slow_b once in (omega (arith, ints, k.0), omega (arith, ints, k.1)),
  λ k. once_all A B da db o p q (omega (arith, ints, k.0)) (omega (arith, ints, k.1)),
)
