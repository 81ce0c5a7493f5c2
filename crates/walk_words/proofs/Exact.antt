-- The periods that are stated are those that a walk leaves.
use Rattle.std.proofs.Common.{◌≡◌, ℕ, zero, suc, ◌*◌, ◌<◌, ◌≤◌, ◌/◌, ◌↔◌, ⊎_elim, subst, ℤ, pos, negsuc, arith}
use Rattle.std.specs.Int.{div_ceil}
use Rattle.std.proofs.lemmas.Int.{ints}
use Rattle.std.proofs.lemmas.Bool.{cases_lt}
use Rattle.std.proofs.Math.Nat.{div-lt_iff_lt-mul}
use Rattle.longest_path.specs.System.{Refutes}
use Rattle.cycle_walk.specs.declared.sums.Sums.{Sums}
use Rattle.cycle_walk.proofs.ClimbLemmas.{below_kept, kept_above, falling}
use Rattle.walk_words.specs.declared.periods.Periods.TheVariants.{Least}
use Rattle.walk_words.specs.Periods.{Periods, IsAmong, most_by, left_by, periods_of}

most_exact : (n q t : ℕ) → (n < t * q) ↔ (IsAmong (most_by n q) t → ⊥)
most_exact n zero t = (λ lt among. omega (arith, lt), λ no. absurd (no tt))
most_exact n (suc q) t =
    let whole = div-lt_iff_lt-mul {k = suc q} {x = n} {y = t} (omega arith) in (
      λ lt among. let after = whole.1 lt in omega (arith, after, among),
      λ no. ⊎_elim (λ less. whole.0 less) (λ ge. absurd (no ge)) (cases_lt (n / suc q) t),
    )

pub left_exact : (w q : ℤ) (t : ℕ) → Refutes w q t ↔ (IsAmong (left_by w q) t → ⊥)
left_exact (pos w) (negsuc q) t =
    let fall = (falling (negsuc q) t (omega (arith, ints))).1 in (
      λ refutes among.
          let before = kept_above w (suc q) t (omega arith) (omega (arith, ints, refutes, fall)) in
          omega (arith, before, among),
      λ no.
          ⊎_elim (λ less. let under = below_kept w (suc q) t (omega arith) less in omega (arith, ints, under, fall))
          (λ ge. absurd (no ge)) (cases_lt t (div_ceil w (suc q))),
    )
left_exact (negsuc w) (negsuc q) t =
    let fall = (falling (negsuc q) t (omega (arith, ints))).1 in
    (λ refutes among. omega (arith, ints, refutes, fall), λ no. absurd (no tt))
left_exact (pos zero) (pos q) t =
    let most = most_exact 0 q t in
    (λ refutes. most.0 (omega (arith, ints, refutes)), λ no. let more = most.1 no in omega (arith, ints, more))
left_exact (pos (suc w)) (pos q) t = (λ refutes none. none, λ no. omega (arith, ints))
left_exact (negsuc w) (pos q) t =
    let most = most_exact (suc w) q t in
    (λ refutes. most.0 (omega (arith, ints, refutes)), λ no. let more = most.1 no in omega (arith, ints, more))

pub least_exact : (s : Sums) (p t : ℕ) → periods_of s ≡ Least p → (t < p → Refutes s.w s.q t)
    × (p ≤ t → Refutes s.w s.q t → ⊥)
least_exact s p t is =
    let exact = left_exact s.w s.q t in
    let P : Periods → Type 0 = λ left. Refutes s.w s.q t ↔ (IsAmong left t → ⊥) in
    let least = subst P is exact in
    (λ lt. least.1 (λ le. omega (arith, lt, le)), λ le refutes. least.0 refutes le)
