-- Periods that walks refute: each walk those on one side of a number.
use Rattle.std.proofs.Common.{◌≡◌, ℕ, ◌*◌, ◌<◌, ◌≤◌, ⊎_elim, inl, inr, Option, Some, None, ℤ, pos, negsuc, ◌+ℤ◌, ◌*ℤ◌, ◌<ℤ◌, arith}
use Rattle.std.specs.Prelude.{unsigned_abs, max}
use Rattle.std.proofs.lemmas.Int.{ints, by_lt_z}
use Rattle.std.proofs.lemmas.Bool.{cases_lt}
use Rattle.std.proofs.lemmas.Nat.{mul-le}
use Rattle.cycle_walk.proofs.ClimbLemmas.{refutes_on}
use Rattle.cycle_walk.specs.declared.sums.Sums.{Sums}
use Rattle.cert_checker.specs.Followed.{Gives, AllGiven}

-- the walk's line at a natural period, where its q is below 0
falling : (q : ℤ) (t : ℕ) → q <ℤ pos 0 → (0 < unsigned_abs q) × (pos (t * unsigned_abs q) +ℤ q *ℤ pos t ≡ pos 0)
falling (pos n) t h = absurd (omega (arith, ints, h))
falling (negsuc n) t h = (omega (arith, ints), omega (arith, ints))

-- a walk that refutes a period, and not an earlier one, refutes all later ones
pub given_from : (o : Option Sums) (m p t : ℕ) → m ≤ p → p ≤ t → (Gives o m → ⊥) → Gives o p → Gives o t
given_from None m p t le le' shut gains = absurd gains
given_from (Some s) m p t le le' shut gains =
    by_lt_z s.q (pos 0)
    (λ down.
    let (here, at_m) = falling s.q m down in
    let at_p = falling s.q p down in
    let under = mul-le m (unsigned_abs s.q) p (unsigned_abs s.q) le (omega arith) in
    absurd (shut (omega (arith, ints, gains, at_m, at_p.1, under))))
    (λ up. refutes_on s.w s.q p t gains up le')

-- before the greater of two periods each is refuted by one of two walks
pub given_before : (low high : Option Sums) (m n p : ℕ) → p ≡ max m n → ((t : ℕ) → 1 ≤ t → t < m → Gives low t)
    → ((t : ℕ) → 1 ≤ t → t < n → Gives high t)
    → AllGiven low high p
given_before low high m n p is a b t some lt =
    ⊎_elim (λ under. inl (a t some under)) (λ over. inr (b t some (omega (arith, is, lt, over)))) (cases_lt t m)

-- where one of them refutes that period too, all are refuted
pub given_by_low : (low high : Option Sums) (m n p bound : ℕ) → p ≡ max m n → ((t : ℕ) → 1 ≤ t → t < m → Gives low t)
    → ((t : ℕ) → 1 ≤ t → t < n → Gives high t)
    → (Gives low m → ⊥) → Gives low p → AllGiven low high bound
given_by_low low high m n p bound is a b shut gains t some lt =
    ⊎_elim (λ under. given_before low high m n p is a b t some under) (λ over. inl (given_from low m p t (omega (arith, is)) over shut gains)) (cases_lt t p)

pub given_by_high : (low high : Option Sums) (m n p bound : ℕ) → p ≡ max m n → ((t : ℕ) → 1 ≤ t → t < m → Gives low t)
    → ((t : ℕ) → 1 ≤ t → t < n → Gives high t)
    → (Gives high n → ⊥) → Gives high p → AllGiven low high bound
given_by_high low high m n p bound is a b shut gains t some lt =
    ⊎_elim (λ under. given_before low high m n p is a b t some under) (λ over. inr (given_from high n p t (omega (arith, is)) over shut gains)) (cases_lt t p)
