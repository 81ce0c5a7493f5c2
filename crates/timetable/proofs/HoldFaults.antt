-- The first fault of the rule on tanks.
use Rattle.std.proofs.Common.{◌≡◌, ◌≢◌, ℕ, ◌+◌, ◌*◌, ◌/◌, ◌%◌, ◌<◌, inr, length, arith, refl, sym, subst, ⊎_elim, [], ◌∷◌}
use Rattle.std.specs.Prelude.{ℤ, pos, Some, Option}
use Rattle.hoist_base.specs.LineData.{LineData, IsVisit}
use Rattle.line_model.specs.Timetable.{Timetable}
use Rattle.line_model.specs.Legal.{hold_begin, hold_end}
use Rattle.timetable.specs.declared.fault.Fault.{Fault}
use Rattle.timetable.specs.declared.fault.Fault.TheVariants.{Hold}
use Rattle.timetable.specs.Numbers.{NoneUnder, IsFirstPartner}
use Rattle.timetable.specs.Stretch.{Meet, IsLeastShift}
use Rattle.timetable.specs.Faults.{AreInOrder, AreTwo, HoldTwo, HasFault, IsFirstOf, IsLess, rule_of, values_of}
use Rattle.timetable.proofs.Pairs.{none_at_all, by_pair, number_before_row}
use Rattle.timetable.proofs.CarryFaults.{least_like}

-- the ticks of two holds
abbrev pub HoldsMeet : LineData → Timetable → ℕ → ℕ → ℕ → ℕ → ℤ → Type 0
HoldsMeet l p c k c' k' s =
    Meet p.period (hold_begin l p c k) (hold_end l p c k) (hold_begin l p c' k') (hold_end l p c' k') s

two_meet : (l : LineData) (p : Timetable) (c k c' k' : ℕ) (s : ℤ) → HoldTwo l p c k c' k' s → HoldsMeet l p c k c' k' s
two_meet l p c k c' k' s (two, (h, t, z, z', x, y, is)) = (z, z', (t, x.from, x.before, y.from, y.before), is)

meet_two : (l : LineData) (p : Timetable) (c k c' k' : ℕ) (s : ℤ) → IsVisit l c k → IsVisit l c' k'
    → p.tank c k ≡ p.tank c' k' → AreTwo c k c' k' s → HoldsMeet l p c k c' k' s → HoldTwo l p c k c' k' s
meet_two l p c k c' k' s m m' same two (z, z', (t, p1, p2, p3, p4), is) =
    (two, (p.tank c k, t, z, z', record { visit = m; tank = refl; from = p1; before = p2 }, record { visit = m'; tank = sym same; from = p3; before = p4 }, is))

-- different visits of one tank
pub holds_other : (l : LineData) (p : Timetable) (c k c' k' : ℕ) (o : Option ℤ) → IsVisit l c k → IsVisit l c' k'
    → p.tank c k ≡ p.tank c' k' → AreInOrder c k c' k' → ((c ≡ c') × (k ≡ k') → ⊥)
    → IsLeastShift (HoldsMeet l p c k c' k') o → IsLeastShift (HoldTwo l p c k c' k') o
holds_other l p c k c' k' o m m' same order differ least =
    least_like (HoldsMeet l p c k c' k') (HoldTwo l p c k c' k') o
    (λ s meet. meet_two l p c k c' k' s m m' same (order, λ e. differ (e.0, e.1)) meet)
    (λ s two. two_meet l p c k c' k' s two)
    least

-- copies of one visit
pub holds_again : (l : LineData) (p : Timetable) (c k c' k' : ℕ) (o : Option ℤ) → IsVisit l c k → c ≡ c' → k ≡ k'
    → IsLeastShift (λ s. HoldsMeet l p c k c k s × (s ≢ pos 0)) o → IsLeastShift (HoldTwo l p c k c' k') o
holds_again l p c k c' k' o m e e' least =
    subst (λ (x : ℕ). IsLeastShift (HoldTwo l p c k c' x) o) e'
    (subst (λ (x : ℕ). IsLeastShift (HoldTwo l p c k x k) o) e
    (least_like (λ s. HoldsMeet l p c k c k s × (s ≢ pos 0)) (HoldTwo l p c k c k) o
    (λ s meet. let ne : s ≡ pos 0 → ⊥ = meet.1 in meet_two l p c k c k s m m refl (inr (refl, omega arith), λ e. ne e.2) meet.0)
    (λ s two. (two_meet l p c k c k s two, λ e. two.0.1 (refl, refl, e)))
    least))

hold_less : (l : LineData) (p : Timetable) (n i j : ℕ) (s : ℤ) → n ≡ length l.stages
    → NoneUnder n i (λ c k. (c' : ℕ) × (k' : ℕ) × (s' : ℤ) × HoldTwo l p c k c' k' s')
    → IsFirstPartner n (HoldTwo l p (i / n) (i % n)) (Some (j, s)) → (g : Fault) → HasFault l p g → rule_of g ≡ 7
    → IsLess (values_of g) (values_of (Hold (record { carrier = i / n; stage = i % n }) (record { carrier = j / n; stage = j % n }) s))
    → ⊥
hold_less l p n i j s stages none partner (Hold a b s') has e less =
    let (two, (h, t, z, z', x, y, is)) = has in
    let lt : a.stage < n = omega (arith, stages, x.visit.1) in
    let lt' : b.stage < n = omega (arith, stages, y.visit.1) in
    ⊎_elim
    (λ before. none a.carrier a.stage lt (number_before_row n i a.carrier a.stage lt before) (b.carrier, b.stage, s', has))
    (λ rest.
    let has' : HoldTwo l p (i / n) (i % n) b.carrier b.stage s' = subst
    (λ (v : ℕ). HoldTwo l p (i / n) v b.carrier b.stage s') rest.1
    (subst (λ (v : ℕ). HoldTwo l p v a.stage b.carrier b.stage s') rest.0 has) in
    ⊎_elim
    (λ before. partner.1 b.carrier b.stage lt' (number_before_row n j b.carrier b.stage lt' before) (s', has'))
    (λ rest'.
    let has'' : HoldTwo l p (i / n) (i % n) (j / n) (j % n) s' = subst
    (λ (v : ℕ). HoldTwo l p (i / n) (i % n) (j / n) v s') rest'.1
    (subst (λ (v : ℕ). HoldTwo l p (i / n) (i % n) v b.stage s') rest'.0 has') in
    ⊎_elim (λ earlier. partner.2 s' has'' earlier) (λ same. same.1) rest'.2)
    (by_pair b.carrier b.stage (j / n) (j % n) (s' ∷ []) (s ∷ []) rest.2))
    (by_pair a.carrier a.stage (i / n) (i % n) (pos b.carrier ∷ pos b.stage ∷ s' ∷ []) (pos (j / n) ∷ pos (j % n) ∷ s ∷ []) less)
hold_less l p n i j s stages none partner _ has e less = absurd (omega (arith, e))

pub hold_first : (l : LineData) (p : Timetable) (n i j : ℕ) (s : ℤ) → n ≡ length l.stages
    → NoneUnder n i (λ c k. (c' : ℕ) × (k' : ℕ) × (s' : ℤ) × HoldTwo l p c k c' k' s')
    → IsFirstPartner n (HoldTwo l p (i / n) (i % n)) (Some (j, s))
    → IsFirstOf 7 l p (Some (Hold (record { carrier = i / n; stage = i % n }) (record { carrier = j / n; stage = j % n }) s))
hold_first l p n i j s stages none partner = (partner.0, refl, hold_less l p n i j s stages none partner)

pub hold_none : (l : LineData) (p : Timetable) (n : ℕ) → n ≡ length l.stages
    → NoneUnder n (l.degree * n) (λ c k. (c' : ℕ) × (k' : ℕ) × (s' : ℤ) × HoldTwo l p c k c' k' s') → (g : Fault)
    → HasFault l p g → rule_of g ≢ 7
hold_none l p n stages none (Hold a b s) has e =
    let (two, (h, t, z, z', x, y, is)) = has in
    none_at_all n l.degree (λ c k. (c' : ℕ) × (k' : ℕ) × (s' : ℤ)
    × HoldTwo l p c k c' k' s') none a.carrier a.stage x.visit.0 (omega (arith, stages, x.visit.1))
    (b.carrier, b.stage, s, has)
hold_none l p n stages none _ has e = absurd (omega (arith, e))

pub hold_partner_none : (l : LineData) (p : Timetable) (n c k : ℕ)
    → NoneUnder n (l.degree * n) (λ c' k'. (s : ℤ) × HoldTwo l p c k c' k' s) → (c' k' : ℕ) (s : ℤ) → k' < n
    → HoldTwo l p c k c' k' s → ⊥
hold_partner_none l p n c k none c' k' s lt has =
    let (two, (h, t, z, z', x, y, is)) = has in
    none_at_all n l.degree (λ c' k'. (s : ℤ) × HoldTwo l p c k c' k' s) none c' k' y.visit.0 lt (s, has)
