-- Multiples of the period between two numbers.
use Rattle.std.proofs.Common.{◌≡◌, ℕ, zero, suc, ◌+◌, ◌*◌, ◌/◌, ◌<◌, ◌≤◌, refl, ◌∙◌, ap, arith, pos, ℤ}
use Rattle.std.specs.Prelude.{◌+ℤ◌, ◌*ℤ◌, ◌≤ℤ◌, ◌<ℤ◌, neg_ℤ, negsuc, unsigned_abs}
use Rattle.std.specs.Int.{int_div_euclid}
use Rattle.std.proofs.lemmas.Int.{ints, by_lt_z}
use Rattle.std.proofs.Math.Nat.{div-le_self}
use Rattle.std.proofs.lemmas.Nat.{div-add-mod', mod_below}
use Rattle.list_facts.proofs.Products.{times_add, times_mono}
use Rattle.period_constraints.specs.Pairs.{IsNextShift, IsBetween}

pos_times : (d t : ℕ) → pos d *ℤ pos t ≡ pos (d * t)
pos_times d t = refl

neg_times : (d t : ℕ) → neg_ℤ (pos d) *ℤ pos t ≡ neg_ℤ (pos (d * t))
neg_times zero t = omega (arith, ints)
neg_times (suc d) t = omega (arith, ints)

-- the first multiple above a number
pub next_multiple : (x : ℤ) (t : ℕ) (q : ℤ) → 0 < t → q ≡ int_div_euclid x (pos t) +ℤ pos 1 → IsNextShift x t q
next_multiple (pos a) t q some is =
    let d = a / t in
    let e : q ≡ pos (d + 1) = omega (arith, ints, is) in
    let f : q *ℤ pos t ≡ pos ((d + 1) * t) = ap (λ (z : ℤ). z *ℤ pos t) e ∙ pos_times (d + 1) t in
    let g = div-add-mod' a t in
    let h = mod_below a t some in
    record { above = omega (arith, ints, f, g, h); near = omega (arith, ints, f, g, h) }
next_multiple (negsuc a) t q some is =
    let d = a / t in
    let e : q ≡ neg_ℤ (pos d) = omega (arith, ints, is) in
    let f : q *ℤ pos t ≡ neg_ℤ (pos (d * t)) = ap (λ (z : ℤ). z *ℤ pos t) e ∙ neg_times d t in
    let g = div-add-mod' a t in
    let h = mod_below a t some in
    record { above = omega (arith, ints, f, g, h); near = omega (arith, ints, f, g, h) }

-- any other comes later
pub next_least : (x : ℤ) (t : ℕ) (q r : ℤ) → IsNextShift x t q → x <ℤ (r *ℤ pos t) → q ≤ℤ r
next_least x t q r next above =
    by_lt_z r q
    (λ lt.
    let le : (r +ℤ pos 1) ≤ℤ q = omega (arith, ints, lt) in
    let m = times_mono (r +ℤ pos 1) q t le in
    let s = times_add r (pos 1) t in
    absurd (omega (arith, ints, m, s, pos_times 1 t, next.near, above)))
    (λ le. le)

-- ---- the first number of periods strictly between two numbers

pub shift_small : (low : ℤ) (t : ℕ) (q : ℤ) → q ≡ int_div_euclid low (pos t) +ℤ pos 1
    → unsigned_abs q ≤ unsigned_abs low + 1
shift_small (pos a) t q is = omega (arith, ints, is, div-le_self a t)
shift_small (negsuc a) t q is = omega (arith, ints, is, div-le_self a t)

pub shift_first : (low high : ℤ) (t : ℕ) (q : ℤ) → IsNextShift low t q → (q *ℤ pos t) <ℤ high
    → IsBetween low high t q × ((r : ℤ) → r <ℤ q → IsBetween low high t r → ⊥)
shift_first low high t q next under =
    ((next.above, under), λ r lt between. omega (arith, ints, lt, next_least low t q r next between.0))

pub shift_none : (low high : ℤ) (t : ℕ) (q r : ℤ) → IsNextShift low t q → ((q *ℤ pos t) <ℤ high → ⊥)
    → IsBetween low high t r → ⊥
shift_none low high t q r next over between =
    by_lt_z (q *ℤ pos t) high (λ lt. over lt)
    (λ le. omega (arith, ints, le, between.1, times_mono q r t (next_least low t q r next between.0)))
