-- A number that may be negative.
use Rattle.std.proofs.Common.{◌≡◌, ℕ, zero, suc, ◌^◌, ◌<◌, ◌≤◌, ℤ, pos, negsuc, neg_ℤ, List, [], ◌∷◌, ◌++◌, Bool, true, false, cond, eqb, Ok, refl, sym, subst}
use Rattle.std.proofs.Common.{arith}
use Rattle.std.specs.Prelude.{unsigned_abs}
use Rattle.std.specs.Fmt.{decimal, signed_decimal}
use Rattle.std.proofs.lemmas.Bool.{eqb-true, eqb-false}
use Rattle.field_reading.specs.Reading.{◌>>=◌, number_at, signed_at}
use Rattle.field_reading.specs.Reads.{SameHead, Reads, NoDigit, InRange, IsSmall}
use Rattle.field_reading.proofs.Field.{stuck_reads, cons_reads, made_reads}
use Rattle.field_reading.proofs.Numbers.{begins_number, number_read}

signed_none : (most : ℕ) (z : ℤ) (t : List ℕ) → most < 2 ^ 63 → IsSmall most z → SameHead (signed_decimal z ++ t) [] → ⊥
signed_none most (pos n) t small f head =
    let d = begins_number 0 most n t [] (omega arith) (omega arith) (omega arith, f) head in
    let bad : [] ≡ d.0 ∷ d.1 = d.2 in
    absurd cc
signed_none most (negsuc n) t small f head = absurd head

neg_into : (most n : ℕ) → InRange 1 most n
    → IsSmall most (neg_ℤ (pos n)) × (signed_decimal (neg_ℤ (pos n)) ≡ 45 ∷ decimal n)
neg_into most zero f = absurd (omega (arith, f.0))
neg_into most (suc n) f = (omega (arith, f.1), refl)

neg_from : (most : ℕ) (z : ℤ) (t bytes : List ℕ) → most < 2 ^ 63 → IsSmall most z
    → SameHead (signed_decimal z ++ t) (45 ∷ bytes)
    → (n : ℕ) × InRange 1 most n × (neg_ℤ (pos n) ≡ z)
neg_from most (pos n) t bytes small f head =
    let d = begins_number 0 most n t (45 ∷ bytes) (omega arith) (omega arith) (omega arith, f) head in
    let same : 45 ≡ d.0 = let e = d.2 in cc in
    absurd (omega (arith, d.3, same))
neg_from most (negsuc n) t bytes small f head = (suc n, (omega arith, omega (arith, f)), refl)

pos_from : (most : ℕ) (z : ℤ) (t : List ℕ) (b : ℕ) (bytes : List ℕ) → (b ≡ 45 → ⊥) → IsSmall most z
    → SameHead (signed_decimal z ++ t) (b ∷ bytes)
    → (n : ℕ) × InRange 0 most n × (pos n ≡ z)
pos_from most (pos n) t b bytes other f head = (n, (omega arith, f), refl)
pos_from most (negsuc n) t b bytes other f head = absurd (other (sym head))

signed_step : (most b : ℕ) (bytes : List ℕ) → 1 ≤ most → most < 2 ^ 63 → (v : Bool) → eqb b 45 ≡ v
    → Reads (IsSmall most) signed_decimal NoDigit (b ∷ bytes)
    (cond v (number_at 1 most bytes >>= λ x. Ok (neg_ℤ (pos x.0), x.1)) (number_at 0 most (b ∷ bytes) >>= λ x. Ok (pos x.0, x.1)))
signed_step most b bytes some small true e =
    let r = made_reads (InRange 1 most) (λ n. 45 ∷ decimal n) (IsSmall most) signed_decimal NoDigit (λ n. neg_ℤ (pos n)) (45 ∷ bytes) (number_at 1 most bytes)
    (neg_into most) (λ z t f s head. neg_from most z t bytes small f head)
    (cons_reads (InRange 1 most) (λ n. 45 ∷ decimal n) decimal NoDigit 45 bytes (number_at 1 most bytes) (λ n f. refl)
    (number_read 1 most bytes (omega arith) some (omega arith))) in
    subst (λ (k : ℕ). Reads (IsSmall most) signed_decimal NoDigit (k ∷ bytes) (number_at 1 most bytes >>= λ x. Ok (neg_ℤ (pos x.0), x.1)))
    (sym (eqb-true b 45 e)) r
signed_step most b bytes some small false e =
    made_reads (InRange 0 most) decimal (IsSmall most) signed_decimal NoDigit (λ n. pos n) (b ∷ bytes) (number_at 0 most (b ∷ bytes))
    (λ n f. (f.1, refl)) (λ z t f s head. pos_from most z t b bytes (eqb-false b 45 e) f head)
    (number_read 0 most (b ∷ bytes) (omega arith) (omega arith) (omega arith))

pub signed_read : (most : ℕ) (bytes : List ℕ) → 1 ≤ most → most < 2 ^ 63
    → Reads (IsSmall most) signed_decimal NoDigit bytes (signed_at most bytes)
unfolding signed_at
signed_read most [] some small = stuck_reads (IsSmall most) signed_decimal NoDigit [] (pos 0) (omega arith) (λ z t f s head. signed_none most z t small f head)
signed_read most (b ∷ bytes) some small = signed_step most b bytes some small (eqb b 45) refl
