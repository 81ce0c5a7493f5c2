-- The first fault of each rule on the carriers' times.
use Rattle.std.proofs.Common.{◌≡◌, ◌≢◌, ℕ, ◌*◌, ◌/◌, ◌%◌, ◌<◌, length, arith, ap, refl, sym, ◌∙◌, ⊎_elim, [], ◌∷◌}
use Rattle.std.specs.Prelude.{ℤ, pos, Some}
use Rattle.std.proofs.lemmas.Int.{ints}
use Rattle.hoist_base.specs.LineData.{LineData}
use Rattle.line_model.specs.Timetable.{Timetable}
use Rattle.timetable.specs.declared.fault.Fault.{Fault}
use Rattle.timetable.specs.declared.fault.Fault.TheVariants.{Dwell, Numbering}
use Rattle.timetable.specs.Numbers.{NoneUnder}
use Rattle.timetable.specs.Faults.{IsOutside, IsLate, dwell, next_put, HasFault, IsFirstOf, IsLess, rule_of, values_of}
use Rattle.timetable.proofs.Pairs.{none_at_all, by_pair, less_differs, number_before_row}

same2 : (f : ℕ → ℕ → ℤ) (a b a' b' : ℕ) → a ≡ a' → b ≡ b' → f a b ≡ f a' b'
same2 f a b a' b' p q = ap (λ (x : ℕ). f x b) p ∙ ap (λ (x : ℕ). f a' x) q

dwell_less : (l : LineData) (p : Timetable) (n i : ℕ) (ticks : ℤ) → n ≡ length l.stages → NoneUnder n i (IsOutside l p)
    → ticks ≡ dwell l p (i / n) (i % n) → (g : Fault) → HasFault l p g → rule_of g ≡ 5
    → IsLess (values_of g) (values_of (Dwell (record { carrier = i / n; stage = i % n }) ticks)) → ⊥
dwell_less l p n i ticks stages none is (Dwell v ticks') has e less =
    let c = v.carrier in
    let k = v.stage in
    let lt : k < n = omega (arith, stages, has.0.0.1) in
    ⊎_elim
    (λ before. none c k lt (number_before_row n i c k lt before) has.0)
    (λ rest.
    let q : ticks' ≡ ticks = has.1 ∙ same2 (dwell l p) c k (i / n) (i % n) rest.0 rest.1 ∙ sym is in
    less_differs (ticks' ∷ []) (ticks ∷ []) (ap (λ (x : ℤ). x ∷ []) q) rest.2)
    (by_pair c k (i / n) (i % n) (ticks' ∷ []) (ticks ∷ []) less)
dwell_less l p n i ticks stages none is _ has e less = absurd (omega (arith, e))

pub dwell_first : (l : LineData) (p : Timetable) (n i : ℕ) (ticks : ℤ) → n ≡ length l.stages
    → NoneUnder n i (IsOutside l p) → IsOutside l p (i / n) (i % n) → ticks ≡ dwell l p (i / n) (i % n)
    → IsFirstOf 5 l p (Some (Dwell (record { carrier = i / n; stage = i % n }) ticks))
dwell_first l p n i ticks stages none outside is = ((outside, is), refl, dwell_less l p n i ticks stages none is)

pub dwell_none : (l : LineData) (p : Timetable) (n : ℕ) → n ≡ length l.stages
    → NoneUnder n (l.degree * n) (IsOutside l p) → (g : Fault) → HasFault l p g → rule_of g ≢ 5
dwell_none l p n stages none (Dwell v ticks) has e =
    none_at_all n l.degree (IsOutside l p) none v.carrier v.stage has.0.0.0 (omega (arith, stages, has.0.0.1)) has.0
dwell_none l p n stages none _ has e = absurd (omega (arith, e))

numbering_less : (l : LineData) (p : Timetable) (c put next : ℕ) → ((b : ℕ) → b < c → IsLate l p b → ⊥) → put ≡ p.put c
    → next ≡ next_put l p c → (g : Fault) → HasFault l p g → rule_of g ≡ 6
    → IsLess (values_of g) (values_of (Numbering c put next)) → ⊥
numbering_less l p c put next none is is' (Numbering b put' next') has e less =
    ⊎_elim
    (λ lt. none b (omega (arith, ints, lt)) has.0)
    (λ same.
    let q : b ≡ c = omega (arith, ints, same.0) in
    let q' : put' ≡ put = has.1 ∙ ap p.put q ∙ sym is in
    let q'' : next' ≡ next = has.2 ∙ ap (next_put l p) q ∙ sym is' in
    less_differs (pos put' ∷ pos next' ∷ []) (pos put ∷ pos next ∷ []) (cc (q', q'')) same.1)
    less
numbering_less l p c put next none is is' _ has e less = absurd (omega (arith, e))

pub numbering_first : (l : LineData) (p : Timetable) (c put next : ℕ) → ((b : ℕ) → b < c → IsLate l p b → ⊥)
    → IsLate l p c → put ≡ p.put c → next ≡ next_put l p c → IsFirstOf 6 l p (Some (Numbering c put next))
numbering_first l p c put next none late is is' = ((late, is, is'), refl, numbering_less l p c put next none is is')
