-- The copy of a tick that is nearest to another tick.
use Rattle.std.proofs.Common.{◌≡◌, ℕ, ◌+◌, ◌-◌, ◌*◌, ◌/◌, ◌%◌, ◌≤◌, ◌<◌, ap, arith, ℤ, pos, ◌+ℤ◌, ◌-ℤ◌, ◌*ℤ◌, ◌≤ℤ◌}
use Rattle.std.specs.Prelude.{unsigned_abs}
use Rattle.std.proofs.lemmas.Int.{ints, by_lt_z}
use Rattle.std.proofs.lemmas.Nat.{div-add-mod', mod_below, mul-le}
use Rattle.path_envelope.specs.FirstClash.{IsNearestTick, wait}
use Rattle.list_facts.proofs.Products.{times_add}
use Rattle.path_envelope.proofs.ShiftLemmas.{times_difference}

-- whole numbers of periods
up : (j : ℤ) (k n : ℕ) → pos k ≤ℤ j → pos (k * n) ≤ℤ (j *ℤ pos n)
up j k n le =
    let m : ℕ = unsigned_abs j in
    let e : j ≡ pos m = omega (arith, ints, le) in
    let f : j *ℤ pos n ≡ pos m *ℤ pos n = ap (λ (z : ℤ). z *ℤ pos n) e in
    let g : k * n ≤ m * n = mul-le k n m n (omega (arith, ints, le)) (omega arith) in
    omega (arith, ints, f, g)

down : (j : ℤ) (k n : ℕ) → (j +ℤ pos k) ≤ℤ pos 0 → (j *ℤ pos n +ℤ pos (k * n)) ≤ℤ pos 0
down j k n le =
    let m : ℕ = unsigned_abs j in
    let e : j +ℤ pos m ≡ pos 0 = omega (arith, ints, le) in
    let f : (j +ℤ pos m) *ℤ pos n ≡ pos 0 *ℤ pos n = ap (λ (z : ℤ). z *ℤ pos n) e in
    let g : k * n ≤ m * n = mul-le k n m n (omega (arith, ints, le)) (omega arith) in
    omega (arith, ints, f, g, times_add j (pos m) n)

next_copy : (n to tick : ℕ) → 0 < n → (z : ℤ) × (pos tick +ℤ z *ℤ pos n ≡ pos (to + wait n to tick))
next_copy n to tick p =
    let a : ℕ = tick % n + n - to % n in
    let da = div-add-mod' a n in
    let dt = div-add-mod' to n in
    let dk = div-add-mod' tick n in
    let small : to % n < n = mod_below to n p in
    let d = times_difference (to / n + 1) (a / n + tick / n) n in
    (pos (to / n + 1) -ℤ pos (a / n + tick / n), omega (arith, ints, da, dt, dk, small, d))

-- a copy by the number of periods after the next one
copies : (n tick : ℕ) (z w : ℤ) → w *ℤ pos n ≡ z *ℤ pos n +ℤ (w -ℤ z) *ℤ pos n
copies n tick z w =
    let e : z +ℤ (w -ℤ z) ≡ w = omega (arith, ints) in
    let f : (z +ℤ (w -ℤ z)) *ℤ pos n ≡ w *ℤ pos n = ap (λ (y : ℤ). y *ℤ pos n) e in
    omega (arith, ints, f, times_add z (w -ℤ z) n)

pub nearest_after : (n to tick : ℕ) (to_z result : ℤ) → 0 < n → to_z ≡ pos to → 2 * wait n to tick < n
    → result ≡ to_z +ℤ pos (wait n to tick) → IsNearestTick n to_z tick result
nearest_after n to tick to_z result p te near is =
    let r : ℕ = wait n to tick in
    let (z, at) = next_copy n to tick p in (
      z,
      omega (arith, ints, te, is, at),
      λ w.
          let j : ℤ = w -ℤ z in
          let c = copies n tick z w in
          by_lt_z j (pos 0)
          (λ before. let d = down j 1 n (omega (arith, ints, before)) in (
            omega (arith, ints, te, is, at, c, d, near),
            λ same. absurd (omega (arith, ints, te, is, at, c, d, near, same)),
          ))
          (λ from. let u = up j 0 n (omega (arith, ints, from)) in (omega (arith, ints, te, is, at, c, u, near), λ same. omega (arith, ints, from))),
    )

pub nearest_before : (n to tick : ℕ) (to_z result : ℤ) → 0 < n → to_z ≡ pos to → n ≤ 2 * wait n to tick
    → result ≡ to_z +ℤ pos (wait n to tick) -ℤ pos n → IsNearestTick n to_z tick result
nearest_before n to tick to_z result p te far is =
    let r : ℕ = wait n to tick in
    let small : r < n = mod_below (tick % n + n - to % n) n p in
    let (z, at) = next_copy n to tick p in
    let one : (z -ℤ pos 1) *ℤ pos n ≡ z *ℤ pos n -ℤ pos n =
    let e : (z -ℤ pos 1) +ℤ pos 1 ≡ z = omega (arith, ints) in
    let f : ((z -ℤ pos 1) +ℤ pos 1) *ℤ pos n ≡ z *ℤ pos n = ap (λ (y : ℤ). y *ℤ pos n) e in
    omega (arith, ints, f, times_add (z -ℤ pos 1) (pos 1) n) in (
      z -ℤ pos 1,
      omega (arith, ints, te, is, at, one),
      λ w.
          let j : ℤ = w -ℤ z in
          let c = copies n tick z w in
          by_lt_z (j +ℤ pos 1) (pos 0)
          (λ before. let d = down j 2 n (omega (arith, ints, before)) in (
            omega (arith, ints, te, is, at, c, d, small),
            λ same. absurd (omega (arith, ints, te, is, at, c, d, small, same, p)),
          ))
          (λ from.
          by_lt_z j (pos 0)
          (λ last. let d = down j 1 n (omega (arith, ints, last)) in (omega (arith, ints, te, is, at, c, d, small), λ same. omega (arith, ints, from)))
          (λ later. let u = up j 0 n (omega (arith, ints, later)) in (omega (arith, ints, te, is, at, c, u, small, far), λ same. omega (arith, ints, from)))),
    )
