-- When stretches that come again each period meet.
use Rattle.std.proofs.Common.{◌≡◌, ◌≢◌, ℕ, ◌+◌, ◌-◌, ◌*◌, ◌/◌, ◌<◌, ◌≤◌, max, arith}
use Rattle.std.specs.Prelude.{ℤ, pos, ◌-ℤ◌, ◌<ℤ◌, ◌≤ℤ◌, neg_ℤ, Some, None}
use Rattle.std.proofs.lemmas.Int.{ints, by_lt_z}
use Rattle.std.proofs.Math.Nat.{mul-le-mul_right, div-mul-le_self, lt-div-mul-add}
use Rattle.timetable.specs.Stretch.{Meet, IsLeastShift}

-- two copies meet where each begins before the other ends
meets : (T b e b' e' w q : ℕ) (s : ℤ) → b < e → b' < e' → b + w * T < e' + q * T → b' + q * T < e + w * T
    → s ≡ pos q -ℤ pos w → Meet T b e b' e' s
meets T b e b' e' w q s h h' lt lt' is =
    (w, q, (max (b + w * T) (b' + q * T), omega arith, omega arith, omega arith, omega arith), is)

-- no shift is less, where a copy of the second one period earlier ends too soon
none_sooner : (T b e b' e' w q : ℕ) (s : ℤ) → q * T + e' ≤ b + w * T → Meet T b e b' e' s → s <ℤ (pos (q + 1) -ℤ pos w)
    → ⊥
none_sooner T b e b' e' w q s early (z, z', (t, p1, p2, p3, p4), is) less =
    let le : z' + w ≤ q + z = omega (arith, ints, is, less) in
    omega (arith, mul-le-mul_right T le)

-- and none at all where this copy begins too late
none_later : (T b e b' e' w q : ℕ) (s : ℤ) → e + w * T ≤ b' + q * T → Meet T b e b' e' s → (pos q -ℤ pos w) ≤ℤ s → ⊥
none_later T b e b' e' w q s late (z, z', (t, p1, p2, p3, p4), is) ge =
    let le : q + z ≤ z' + w = omega (arith, ints, is, ge) in
    omega (arith, mul-le-mul_right T le)

-- the numbers that the division gives
pub record IsNext (T b e' w q : ℕ) : Type 0 where
  pub after : b + w * T < e' + (q + 1) * T
  pub before : q * T + e' ≤ b + w * T

pub next_copy : (T b e' : ℕ) → 0 < T → IsNext T b e' (e' / T + 1) ((b + (e' / T + 1) * T - e') / T)
next_copy T b e' pos_T =
    let w = e' / T + 1 in
    let n = b + w * T - e' in
    let enough = lt-div-mul-add {a = e'} {b = T} pos_T in
    let under = div-mul-le_self n T in
    let over = lt-div-mul-add {a = n} {b = T} pos_T in
    record { after = omega (arith, enough, over); before = omega (arith, enough, under) }

pub least_meeting : (T b e b' e' : ℕ) (w q : ℕ) (s : ℤ) → b < e → b' < e' → IsNext T b e' w q
    → b' + (q + 1) * T < e + w * T → s ≡ pos (q + 1) -ℤ pos w → IsLeastShift (Meet T b e b' e') (Some s)
least_meeting T b e b' e' w q s h h' next lt is =
    (meets T b e b' e' w (q + 1) s h h' next.after lt is, λ s' m less. none_sooner T b e b' e' w q s' next.before m (omega (arith, ints, is, less)))

pub no_meeting : (T b e b' e' : ℕ) (w q : ℕ) → IsNext T b e' w q → e + w * T ≤ b' + (q + 1) * T
    → IsLeastShift (Meet T b e b' e') None
no_meeting T b e b' e' w q next late = λ s m.
    by_lt_z s (pos (q + 1) -ℤ pos w)
    (λ less. none_sooner T b e b' e' w q s next.before m less)
    (λ ge. none_later T b e b' e' w (q + 1) s late m ge)

-- what meets itself later meets itself earlier
turned : (T b e : ℕ) (s : ℤ) → Meet T b e b e s → Meet T b e b e (neg_ℤ s)
turned T b e s (z, z', (t, p1, p2, p3, p4), is) = (z', z, (t, p3, p4, p1, p2), omega (arith, ints, is))

pub no_return : (T b e : ℕ) (s : ℤ) → s ≡ pos 0 → IsLeastShift (Meet T b e b e) (Some s)
    → IsLeastShift (λ x. Meet T b e b e x × (x ≢ pos 0)) None
no_return T b e s is least x m =
    let ne : x ≡ pos 0 → ⊥ = m.1 in
    by_lt_z x (pos 0)
    (λ less. least.1 x m.0 (omega (arith, ints, is, less)))
    (λ ge. by_lt_z (neg_ℤ x) (pos 0)
    (λ less. least.1 (neg_ℤ x) (turned T b e x m.0) (omega (arith, ints, is, less)))
    (λ ge'. ne (omega (arith, ints, ge, ge'))))

pub never_returns : (T b e : ℕ) → IsLeastShift (Meet T b e b e) None
    → IsLeastShift (λ x. Meet T b e b e x × (x ≢ pos 0)) None
never_returns T b e none x m = none x m.0
