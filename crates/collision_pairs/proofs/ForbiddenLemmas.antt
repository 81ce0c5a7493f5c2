-- Forbidden offsets by cases: one hoist, the first hoist below, the first hoist above.
use Rattle.std.proofs.Common.{◌≡◌, ℕ, ◌-◌, ◌*◌, ◌<◌, ◌↔◌, inl, inr, ⊎_elim, ℤ, neg_ℤ, Option, Some, None, refl, arith}
use Rattle.std.proofs.lemmas.Int.{ints}
use Rattle.line_model.specs.declared.motion.Motion.{Motion}
use Rattle.line_model.specs.Motion.{IsMotion, duration, place}
use Rattle.hoist_base.specs.LineData.{LineData}
use Rattle.collision_pairs.specs.declared.span.Span.{Span}
use Rattle.collision_pairs.specs.Forbidden.{IsForbidden, ComeTooNear, AreAtOnce, IsWithin, IsSpanOf}
use Rattle.collision_pairs.specs.Clash.{once_span, turned_answer}
use Rattle.collision_pairs.proofs.TickLemmas.{once_between}
use Rattle.collision_pairs.proofs.MotionLemmas.{goes_slowly, at_start, at_end, lasts}

-- one hoist: the two distances are the whole span
once_is : (a b : Motion) → IsMotion a → IsMotion b → (o : ℤ) → AreAtOnce a b o ↔ IsWithin (once_span a b) o
once_is a b p q o =
    once_between (place a) (place b) (duration a) (duration b) a.from a.to b.from b.to (once_span a b).after (once_span a b).before o
    (goes_slowly a) (goes_slowly b) (lasts a p).0 (lasts b q).0
    (at_start a) (at_end a) (at_start b) (at_end b) refl refl

forbidden_same : (l : LineData) (a : Motion) (ha : ℕ) (b : Motion) (hb : ℕ) → ha ≡ hb → (o : ℤ)
    → AreAtOnce a b o ↔ IsForbidden l a ha b hb o
forbidden_same l a ha b hb e o = (
  λ p. inr (inl (e, p)),
  λ f. ⊎_elim (λ p. absurd (omega (arith, p.0))) (λ q. ⊎_elim (λ r. r.1) (λ s. absurd (omega (arith, s.0))) q) f,
)

forbidden_above : (l : LineData) (a : Motion) (ha : ℕ) (b : Motion) (hb : ℕ) → ha < hb → (o : ℤ)
    → ComeTooNear a b ((hb - ha) * l.gap) o ↔ IsForbidden l a ha b hb o
forbidden_above l a ha b hb e o = (
  λ p. inl (e, p),
  λ f. ⊎_elim (λ p. p.1) (λ q. absurd (⊎_elim (λ r. omega (arith, r.0)) (λ s. omega (arith, s.0)) q)) f,
)

forbidden_below : (l : LineData) (a : Motion) (ha : ℕ) (b : Motion) (hb : ℕ) → hb < ha → (o : ℤ)
    → ComeTooNear b a ((ha - hb) * l.gap) (neg_ℤ o) ↔ IsForbidden l a ha b hb o
forbidden_below l a ha b hb e o = (
  λ p. inr (inr (e, p)),
  λ f. ⊎_elim (λ p. absurd (omega (arith, p.0))) (λ q. ⊎_elim (λ r. absurd (omega (arith, r.0))) (λ s. s.1) q) f,
)

-- one answer for two sets that are the same
span_same : (answer : Option Span) (P Q : ℤ → Type 0) → ((o : ℤ) → P o ↔ Q o) → IsSpanOf answer P → IsSpanOf answer Q
span_same None P Q e h = λ o q. h o ((e o).1 q)
span_same (Some s) P Q e h = λ o. (λ q. (h o).0 ((e o).1 q), λ w. (e o).0 ((h o).1 w))

-- with the two motions in the other order the offsets change their sign
span_back : (answer : Option Span) (P : ℤ → Type 0) → IsSpanOf answer P
    → IsSpanOf (turned_answer answer) (λ o. P (neg_ℤ o))
span_back None P h = λ o p. h (neg_ℤ o) p
span_back (Some s) P h = λ o. (
  λ p. let w = (h (neg_ℤ o)).0 p in (omega (arith, ints, w.0, w.1), omega (arith, ints, w.0, w.1)),
  λ w. (h (neg_ℤ o)).1 (omega (arith, ints, w.0, w.1), omega (arith, ints, w.0, w.1)),
)

pub span_once : (l : LineData) (a : Motion) (ha : ℕ) (b : Motion) (hb : ℕ) → IsMotion a → IsMotion b → ha ≡ hb
    → IsSpanOf (Some (once_span a b)) (IsForbidden l a ha b hb)
span_once l a ha b hb p q e = span_same (Some (once_span a b)) (AreAtOnce a b) (IsForbidden l a ha b hb) (forbidden_same l a ha b hb e) (once_is a b p q)

pub span_above : (l : LineData) (a : Motion) (ha : ℕ) (b : Motion) (hb : ℕ) (answer : Option Span) → ha < hb
    → IsSpanOf answer (ComeTooNear a b ((hb - ha) * l.gap)) → IsSpanOf answer (IsForbidden l a ha b hb)
span_above l a ha b hb answer e h = span_same answer (ComeTooNear a b ((hb - ha) * l.gap)) (IsForbidden l a ha b hb) (forbidden_above l a ha b hb e) h

pub span_below : (l : LineData) (a : Motion) (ha : ℕ) (b : Motion) (hb : ℕ) (answer : Option Span) → hb < ha
    → IsSpanOf answer (ComeTooNear b a ((ha - hb) * l.gap)) → IsSpanOf (turned_answer answer) (IsForbidden l a ha b hb)
span_below l a ha b hb answer e h =
    span_same (turned_answer answer) (λ o. ComeTooNear b a ((ha - hb) * l.gap) (neg_ℤ o)) (IsForbidden l a ha b hb) (forbidden_below l a ha b hb e)
    (span_back answer (ComeTooNear b a ((ha - hb) * l.gap)) h)
