-- Fixed points and their copies, whole periods apart.
use Rattle.std.proofs.Common.{◌≡◌, ℕ, ◌+◌, ◌-◌, ◌*◌, ◌/◌, ◌%◌, ◌≤◌, ◌<◌, sym, ap, ⊎_elim, arith, ℤ, pos, ◌+ℤ◌, ◌-ℤ◌, ◌*ℤ◌}
use Rattle.std.specs.Prelude.{unsigned_abs}
use Rattle.std.proofs.lemmas.Int.{ints}
use Rattle.std.proofs.lemmas.Bool.{cases_lt}
use Rattle.std.proofs.lemmas.Nat.{div-add-mod'}
use Rattle.std.proofs.Math.Nat.{add-mul-mod_self_right}
use Rattle.list_facts.proofs.Products.{times_add}
use Rattle.hoist_base.specs.LineData.{LineData}
use Rattle.line_model.specs.Timetable.{Timetable}
use Rattle.path_envelope.specs.declared.point.Point.{Point}
use Rattle.path_envelope.specs.Duties.{IsFixed}
use Rattle.path_envelope.specs.Rows.{IsSlow}
use Rattle.path_envelope.specs.Slots.{FixesSlot}
use Rattle.path_envelope.proofs.RowLemmas.{slow_far}

pub times_difference : (a b n : ℕ) → (pos a -ℤ pos b) *ℤ pos n ≡ pos (a * n) -ℤ pos (b * n)
times_difference a b n =
    let d : (pos a -ℤ pos b) +ℤ pos b ≡ pos a = omega (arith, ints) in
    let e : ((pos a -ℤ pos b) +ℤ pos b) *ℤ pos n ≡ pos a *ℤ pos n = ap (λ (z : ℤ). z *ℤ pos n) d in
    omega (arith, ints, e, times_add (pos a -ℤ pos b) (pos b) n)

-- the point w periods later
abbrev pub shifted : Timetable → Point → ℤ → Point
shifted p x w = record { hoist = x.hoist; tick = x.tick +ℤ w *ℤ pos p.period; at = x.at }

pub shift : (l : LineData) (p : Timetable) (x : Point) (w : ℤ) → IsFixed l p x → IsFixed l p (shifted p x w)
shift l p x w (c, k, u, z, f) =
    let t = times_add z w p.period in (
      c,
      k,
      u,
      z +ℤ w,
      record {
        move = f.move;
        within = f.within;
        hoist = f.hoist;
        tick = omega (arith, ints, f.tick, t);
        at = f.at;
      },
    )

-- the point at a tick of the period, as a fixed point there or a number of ticks away that is whole periods
pub in_slot : (l : LineData) (p : Timetable) (h s at t m n : ℕ) → FixesSlot l p h s at
    → (s + n) % p.period ≡ (t + m) % p.period
    → IsFixed l p (record { hoist = h; tick = pos t +ℤ pos m -ℤ pos n; at = at })
in_slot l p h s at t m n f e =
    let a : ℕ = p.start f.c f.k + f.u in
    let qa : ℕ = a / p.period in
    let qs : ℕ = (s + n) / p.period in
    let qt : ℕ = (t + m) / p.period in
    let da = div-add-mod' a p.period in
    let ds = div-add-mod' (s + n) p.period in
    let dt = div-add-mod' (t + m) p.period in
    let slot : a % p.period ≡ s = f.slot in
    let d = times_difference qt (qs + qa) p.period in (
      f.c,
      f.k,
      f.u,
      pos qt -ℤ pos (qs + qa),
      record {
        move = f.move;
        within = f.within;
        hoist = sym f.hoist;
        tick = omega (arith, ints, da, ds, dt, d, e, slot);
        at = f.at;
      },
    )

-- ticks of a period and whole periods between them
pub periods_between : (period s t m n : ℕ) → (s + n) % period ≡ (t + m) % period
    → (w : ℤ) × (pos s +ℤ w *ℤ pos period ≡ pos t +ℤ pos m -ℤ pos n)
periods_between period s t m n e =
    let qs : ℕ = (s + n) / period in
    let qt : ℕ = (t + m) / period in
    let ds = div-add-mod' (s + n) period in
    let dt = div-add-mod' (t + m) period in
    let d = times_difference qt qs period in
    (pos qt -ℤ pos qs, omega (arith, ints, ds, dt, d, e))

-- the tick of the period on which a fixed point falls
pub slot_of : (l : LineData) (p : Timetable) (x : Point) → (f : IsFixed l p x)
    → FixesSlot l p x.hoist ((p.start f.0 f.1 + f.2) % p.period) x.at
slot_of l p x (c, k, u, z, f) = record { c = c; k = k; u = u; move = f.move; within = f.within; hoist = sym f.hoist; slot = omega arith; at = f.at }

-- and how many periods away
pub turns_of : (l : LineData) (p : Timetable) (x : Point) → (f : IsFixed l p x)
    → (w : ℤ) × (x.tick ≡ pos ((p.start f.0 f.1 + f.2) % p.period) +ℤ w *ℤ pos p.period)
turns_of l p x (c, k, u, z, f) =
    let a : ℕ = p.start c k + u in
    let q : ℕ = a / p.period in
    let da = div-add-mod' a p.period in
    let d = times_add z (pos q) p.period in
    (z +ℤ pos q, omega (arith, ints, f.tick, da, d))

-- a slow row at two ticks that are at most d apart
pub slow_between : (n : ℕ) (row : ℕ → ℕ) (a b d : ℕ) → 0 < n → IsSlow n row → a ≤ b + d → b ≤ a + d
    → row (a % n) ≤ row (b % n) + d
slow_between n row a b d p slow le ge =
    ⊎_elim
    (λ lt.
    let e : row ((a + (b - a)) % n) ≡ row (b % n) = ap (λ k. row (k % n)) (omega (arith, lt)) in
    omega (arith, e, (slow_far n row a (b - a) p slow).0))
    (λ past.
    let e : row ((b + (a - b)) % n) ≡ row (a % n) = ap (λ k. row (k % n)) (omega (arith, past)) in
    omega (arith, e, (slow_far n row b (a - b) p slow).1))
    (cases_lt a b)

-- the same where the second tick is whole periods away
pub slow_apart : (n : ℕ) (row : ℕ → ℕ) (s t : ℕ) (w : ℤ) → 0 < n → IsSlow n row
    → row (s % n) ≤ row (t % n) + unsigned_abs (pos s +ℤ w *ℤ pos n -ℤ pos t)
slow_apart n row s t w p slow =
    let m : ℕ = unsigned_abs w in
    let k : ℕ = unsigned_abs (w +ℤ pos m) in
    let e : w +ℤ pos m ≡ pos k = omega (arith, ints) in
    let f : (w +ℤ pos m) *ℤ pos n ≡ pos k *ℤ pos n = ap (λ (z : ℤ). z *ℤ pos n) e in
    let g = times_add w (pos m) n in
    let d : ℕ = unsigned_abs (pos s +ℤ w *ℤ pos n -ℤ pos t) in
    let le : s + k * n ≤ t + m * n + d = omega (arith, ints, f, g) in
    let ge : t + m * n ≤ s + k * n + d = omega (arith, ints, f, g) in
    let a : row ((s + k * n) % n) ≡ row (s % n) = ap row (add-mul-mod_self_right s k n) in
    let b : row ((t + m * n) % n) ≡ row (t % n) = ap row (add-mul-mod_self_right t m n) in
    omega (arith, a, b, slow_between n row (s + k * n) (t + m * n) d p slow le ge)
