-- What stands behind the letters of a tick line, from flag to flag.
use Rattle.std.proofs.Common.{◌≡◌, ℕ, Option, Bool, List, length, codes, Result, Ok, Err, refl, sym, ap, ◌∙◌, arith}
use Rattle.field_reading.specs.declared.stop.Stop.{Stop}
use Rattle.field_reading.specs.declared.stop.Stop.TheVariants as stops
use Rattle.field_reading.specs.Gives.{Fails}
use Rattle.field_reading.specs.Reading.{◌>>=◌, word_at}
use Rattle.field_reading.specs.Reads.{Any}
use Rattle.hoist_base.specs.LineData.{LineData}
use Rattle.hoist_base.specs.Valid.{IsLine}
use Rattle.track_log.specs.Reading.{at_most, flag_at, flagged, begins_at, tail_at}
use Rattle.track_log.proofs.Begins.{flag_is}
use Rattle.track_log.proofs.BeginsRead.{HasFew, IsTail, tail_text, tail_read}
use Rattle.track_log.proofs.Choices.{bounded}

pub has_few : (l : LineData) → IsLine l → HasFew l
has_few l line =
    let t = line.limits.tanks in
    let h = line.limits.hoists in
    (omega (arith, t.0), omega (arith, t.1), omega (arith, h.1))

pub fails_then : {A B : Type 0} (e : Stop) (r : Result A ℕ) (f : A → Result B ℕ) → Fails e r → Fails e (r >>= f)
fails_then {A = A} {B = B} stops.Memory r f h = tt
fails_then {A = A} {B = B} (stops.Broken left) (Ok x) f h = absurd cc
fails_then {A = A} {B = B} (stops.Broken left) (Err other) f h = let p : other ≡ left = cc in ap (λ (n : ℕ). Err n) p

pub fails_as : {A : Type 0} (e : Stop) (r s : Result A ℕ) → r ≡ s → Fails e s → Fails e r
fails_as {A = A} stops.Memory r s e h = tt
fails_as {A = A} (stops.Broken left) r s e h = e ∙ h

-- both flags, and then the begins
pub tail_is : (l : LineData) (bytes first second : List ℕ) (left most : ℕ) (off put : Bool) → IsLine l
    → flagged (word_at (codes " off") bytes) bytes (length bytes) ≡ (off, first, left)
    → flagged (word_at (codes " put") first) first left ≡ (put, second, most)
    → tail_at l bytes ≡ (at_most most (begins_at l 0 l.hoists second) >>= λ x. Ok ((off, (put, x.0)), x.1))
unfolding tail_at
tail_is l bytes first second left most off put line e f =
    let begins = begins_at l 0 l.hoists in
    let whole = bounded (IsTail l) tail_text Any bytes (tail_at l bytes) (tail_read l bytes (has_few l line)) in
    let a = flag_is (codes " off") (flag_at (codes " put") begins) bytes first (length bytes) left off e in
    let b = flag_is (codes " put") begins first second left most put f in
    sym whole ∙ a ∙ ap with_off b ∙ joined (at_most most (begins second))
  where
    with_off : Result ((Bool × List (Option ℕ)) × List ℕ) ℕ → Result ((Bool × (Bool × List (Option ℕ))) × List ℕ) ℕ
    with_off r = r >>= λ x. Ok ((off, x.0), x.1)

    with_put : Result (List (Option ℕ) × List ℕ) ℕ → Result ((Bool × List (Option ℕ)) × List ℕ) ℕ
    with_put r = r >>= λ x. Ok ((put, x.0), x.1)

    joined : (r : Result (List (Option ℕ) × List ℕ) ℕ)
        → with_off (with_put r) ≡ (r >>= λ x. Ok ((off, (put, x.0)), x.1))
    joined (Ok x) = refl
    joined (Err other) = refl
