-- The first fault of each rule on hoists that carry.
use Rattle.std.proofs.Common.{◌≡◌, ◌≢◌, ℕ, ◌+◌, ◌*◌, ◌/◌, ◌%◌, ◌<◌, ◌≤◌, inr, arith, ap, refl, sym, ◌∙◌, subst, ⊎_elim, [], ◌∷◌}
use Rattle.std.specs.Prelude.{ℤ, pos, Some, None, Option}
use Rattle.std.proofs.Math.Nat.{mul-le-mul_right}
use Rattle.std.proofs.lemmas.Int.{ints}
use Rattle.hoist_base.specs.LineData.{LineData, last_stage, IsMove}
use Rattle.line_model.specs.Motion.{duration, place}
use Rattle.line_model.specs.Timetable.{Timetable, position, motion}
use Rattle.timetable.specs.declared.fault.Fault.{Fault}
use Rattle.timetable.specs.declared.fault.Fault.TheVariants.{Motion, Carry}
use Rattle.timetable.specs.Numbers.{NoneUnder, IsLeastOf, IsFirstPartner}
use Rattle.timetable.specs.Stretch.{Meet, IsLeastShift}
use Rattle.timetable.specs.Faults.{AreInOrder, AreTwo, IsAstray, CarriesTwo, HasFault, IsFirstOf, IsLess, rule_of, values_of}
use Rattle.timetable.proofs.Pairs.{none_at_all, by_pair, less_differs, number_before_row}

same3 : (f : ℕ → ℕ → ℕ → ℕ) (a b c a' b' c' : ℕ) → a ≡ a' → b ≡ b' → c ≡ c' → f a b c ≡ f a' b' c'
same3 f a b c a' b' c' p q r = ap (λ (x : ℕ). f x b c) p ∙ ap (λ (x : ℕ). f a' x c) q ∙ ap (λ (x : ℕ). f a' b' x) r

-- the tick at which the first astray move is astray, and what was wanted and seen there
motion_less : (l : LineData) (p : Timetable) (n i u want seen : ℕ) → n ≡ last_stage l
    → NoneUnder n i (λ c k. (v : ℕ) × IsAstray l p c k v) → IsLeastOf (IsAstray l p (i / n) (i % n)) (Some u)
    → want ≡ place (motion l p (i / n) (i % n)) u
    → seen ≡ position p (p.hoist (i / n) (i % n)) (p.start (i / n) (i % n) + u) → (g : Fault) → HasFault l p g
    → rule_of g ≡ 3 → IsLess (values_of g) (values_of (Motion (record { carrier = i / n; step = i % n }) u want seen))
    → ⊥
motion_less l p n i u want seen steps none least is is' (Motion m v want' seen') has e less =
    let c = m.carrier in
    let k = m.step in
    let step : k < n = omega (arith, steps, has.0.0.1) in
    ⊎_elim
    (λ before. none c k step (number_before_row n i c k step before) (v, has.0))
    (λ rest.
    let astray : IsAstray l p (i / n) (i % n) v = subst (λ (x : ℕ). IsAstray l p (i / n) x v) rest.1 (subst (λ (x : ℕ). IsAstray l p x k v) rest.0 has.0) in
    ⊎_elim
    (λ lt. least.1 v astray (omega (arith, ints, lt)))
    (λ same.
    let same' : v ≡ u = omega (arith, ints, same.0) in
    let q : want' ≡ want = has.1 ∙ same3 (λ x y z. place (motion l p x y) z) c k v (i / n) (i % n) u rest.0 rest.1 same' ∙ sym is in
    let q' : seen' ≡ seen = has.2 ∙ same3 (λ x y z. position p (p.hoist x y) (p.start x y + z)) c k v (i / n) (i % n) u rest.0 rest.1 same' ∙ sym is' in
    less_differs (pos want' ∷ pos seen' ∷ []) (pos want ∷ pos seen ∷ []) (cc (q, q')) same.1)
    rest.2)
    (by_pair c k (i / n) (i % n) (pos v ∷ pos want' ∷ pos seen' ∷ []) (pos u ∷ pos want ∷ pos seen ∷ []) less)
motion_less l p n i u want seen steps none least is is' _ has e less = absurd (omega (arith, e))

pub motion_first : (l : LineData) (p : Timetable) (n i u want seen : ℕ) → n ≡ last_stage l
    → NoneUnder n i (λ c k. (v : ℕ) × IsAstray l p c k v) → IsLeastOf (IsAstray l p (i / n) (i % n)) (Some u)
    → want ≡ place (motion l p (i / n) (i % n)) u
    → seen ≡ position p (p.hoist (i / n) (i % n)) (p.start (i / n) (i % n) + u)
    → IsFirstOf 3 l p (Some (Motion (record { carrier = i / n; step = i % n }) u want seen))
motion_first l p n i u want seen steps none least is is' = ((least.0, is, is'), refl, motion_less l p n i u want seen steps none least is is')

pub motion_none : (l : LineData) (p : Timetable) (n : ℕ) → n ≡ last_stage l
    → NoneUnder n (l.degree * n) (λ c k. (v : ℕ) × IsAstray l p c k v) → (g : Fault) → HasFault l p g → rule_of g ≢ 3
motion_none l p n steps none (Motion m u want seen) has e =
    none_at_all n l.degree (λ c k. (v : ℕ) × IsAstray l p c k v) none m.carrier m.step has.0.0.0 (omega (arith, steps, has.0.0.1)) (u, has.0)
motion_none l p n steps none _ has e = absurd (omega (arith, e))

-- the least of equal sets of shifts
pub least_like : (P Q : ℤ → Type 0) (o : Option ℤ) → ((s : ℤ) → P s → Q s) → ((s : ℤ) → Q s → P s) → IsLeastShift P o
    → IsLeastShift Q o
least_like P Q None f g none = λ s q. none s (g s q)
least_like P Q (Some x) f g least = (f x least.0, λ s q lt. least.1 s (g s q) lt)

-- the ticks of two moves
abbrev pub CarriesMeet : LineData → Timetable → ℕ → ℕ → ℕ → ℕ → ℤ → Type 0
CarriesMeet l p c k c' k' s =
    Meet p.period (p.start c k) (p.start c k + duration (motion l p c k)) (p.start c' k') (p.start c' k' + duration (motion l p c' k')) s

two_meet : (l : LineData) (p : Timetable) (c k c' k' : ℕ) (s : ℤ) → CarriesTwo l p c k c' k' s
    → CarriesMeet l p c k c' k' s
two_meet l p c k c' k' s (two, (h, t, z, z', x, y, is)) = (z, z', (t, x.from, x.before, y.from, y.before), is)

meet_two : (l : LineData) (p : Timetable) (c k c' k' : ℕ) (s : ℤ) → IsMove l c k → IsMove l c' k'
    → p.hoist c k ≡ p.hoist c' k' → AreTwo c k c' k' s → CarriesMeet l p c k c' k' s → CarriesTwo l p c k c' k' s
meet_two l p c k c' k' s m m' same two (z, z', (t, p1, p2, p3, p4), is) = (
  two,
  (
    p.hoist c k,
    t,
    z,
    z',
    record { move = m; hoist = refl; from = p1; before = p2 },
    record { move = m'; hoist = sym same; from = p3; before = p4 },
    is,
  ),
)

-- different moves on one hoist
pub carries_other : (l : LineData) (p : Timetable) (c k c' k' : ℕ) (o : Option ℤ) → IsMove l c k → IsMove l c' k'
    → p.hoist c k ≡ p.hoist c' k' → AreInOrder c k c' k' → ((c ≡ c') × (k ≡ k') → ⊥)
    → IsLeastShift (CarriesMeet l p c k c' k') o → IsLeastShift (CarriesTwo l p c k c' k') o
carries_other l p c k c' k' o m m' same order differ least =
    least_like (CarriesMeet l p c k c' k') (CarriesTwo l p c k c' k') o
    (λ s meet. meet_two l p c k c' k' s m m' same (order, λ e. differ (e.0, e.1)) meet)
    (λ s two. two_meet l p c k c' k' s two)
    least

-- copies of one move
pub carries_again : (l : LineData) (p : Timetable) (c k c' k' : ℕ) (o : Option ℤ) → IsMove l c k → c ≡ c' → k ≡ k'
    → IsLeastShift (λ s. CarriesMeet l p c k c k s × (s ≢ pos 0)) o → IsLeastShift (CarriesTwo l p c k c' k') o
carries_again l p c k c' k' o m e e' least =
    subst (λ (x : ℕ). IsLeastShift (CarriesTwo l p c k c' x) o) e'
    (subst (λ (x : ℕ). IsLeastShift (CarriesTwo l p c k x k) o) e
    (least_like (λ s. CarriesMeet l p c k c k s × (s ≢ pos 0)) (CarriesTwo l p c k c k) o
    (λ s meet. let ne : s ≡ pos 0 → ⊥ = meet.1 in meet_two l p c k c k s m m refl (inr (refl, omega arith), λ e. ne e.2) meet.0)
    (λ s two. (two_meet l p c k c k s two, λ e. two.0.1 (refl, refl, e)))
    least))

-- no move before a itself is its partner
pub partner_start : (n c k i : ℕ) (P : ℕ → ℕ → ℤ → Type 0) → k < n
    → ((c' k' : ℕ) (s : ℤ) → P c' k' s → AreInOrder c k c' k') → i ≤ c * n + k
    → NoneUnder n i (λ c' k'. (s : ℤ) × P c' k' s)
partner_start n c k i P lt order le c' k' lt' under (s, has) =
    ⊎_elim
    (λ less. let le' : c + 1 ≤ c' = omega (arith, less) in omega (arith, mul-le-mul_right n le', under, le))
    (λ same. let e : c * n ≡ c' * n = ap (λ (x : ℕ). x * n) same.0 in omega (arith, e, same.1, under, le))
    (order c' k' s has)

carry_less : (l : LineData) (p : Timetable) (n i j : ℕ) (s : ℤ) → n ≡ last_stage l
    → NoneUnder n i (λ c k. (c' : ℕ) × (k' : ℕ) × (s' : ℤ) × CarriesTwo l p c k c' k' s')
    → IsFirstPartner n (CarriesTwo l p (i / n) (i % n)) (Some (j, s)) → (g : Fault) → HasFault l p g → rule_of g ≡ 4
    → IsLess (values_of g) (values_of (Carry (record { carrier = i / n; step = i % n }) (record { carrier = j / n; step = j % n }) s))
    → ⊥
carry_less l p n i j s steps none partner (Carry a b s') has e less =
    let (two, (h, t, z, z', x, y, is)) = has in
    let lt : a.step < n = omega (arith, steps, x.move.1) in
    let lt' : b.step < n = omega (arith, steps, y.move.1) in
    ⊎_elim
    (λ before. none a.carrier a.step lt (number_before_row n i a.carrier a.step lt before) (b.carrier, b.step, s', has))
    (λ rest.
    let has' : CarriesTwo l p (i / n) (i % n) b.carrier b.step s' = subst
    (λ (v : ℕ). CarriesTwo l p (i / n) v b.carrier b.step s') rest.1
    (subst (λ (v : ℕ). CarriesTwo l p v a.step b.carrier b.step s') rest.0 has) in
    ⊎_elim
    (λ before. partner.1 b.carrier b.step lt' (number_before_row n j b.carrier b.step lt' before) (s', has'))
    (λ rest'.
    let has'' : CarriesTwo l p (i / n) (i % n) (j / n) (j % n) s' = subst
    (λ (v : ℕ). CarriesTwo l p (i / n) (i % n) (j / n) v s') rest'.1
    (subst (λ (v : ℕ). CarriesTwo l p (i / n) (i % n) v b.step s') rest'.0 has') in
    ⊎_elim (λ earlier. partner.2 s' has'' earlier) (λ same. same.1) rest'.2)
    (by_pair b.carrier b.step (j / n) (j % n) (s' ∷ []) (s ∷ []) rest.2))
    (by_pair a.carrier a.step (i / n) (i % n) (pos b.carrier ∷ pos b.step ∷ s' ∷ []) (pos (j / n) ∷ pos (j % n) ∷ s ∷ []) less)
carry_less l p n i j s steps none partner _ has e less = absurd (omega (arith, e))

pub carry_first : (l : LineData) (p : Timetable) (n i j : ℕ) (s : ℤ) → n ≡ last_stage l
    → NoneUnder n i (λ c k. (c' : ℕ) × (k' : ℕ) × (s' : ℤ) × CarriesTwo l p c k c' k' s')
    → IsFirstPartner n (CarriesTwo l p (i / n) (i % n)) (Some (j, s))
    → IsFirstOf 4 l p (Some (Carry (record { carrier = i / n; step = i % n }) (record { carrier = j / n; step = j % n }) s))
carry_first l p n i j s steps none partner = (partner.0, refl, carry_less l p n i j s steps none partner)

pub carry_none : (l : LineData) (p : Timetable) (n : ℕ) → n ≡ last_stage l
    → NoneUnder n (l.degree * n) (λ c k. (c' : ℕ) × (k' : ℕ) × (s' : ℤ) × CarriesTwo l p c k c' k' s') → (g : Fault)
    → HasFault l p g → rule_of g ≢ 4
carry_none l p n steps none (Carry a b s) has e =
    let (two, (h, t, z, z', x, y, is)) = has in
    none_at_all n l.degree (λ c k. (c' : ℕ) × (k' : ℕ) × (s' : ℤ)
    × CarriesTwo l p c k c' k' s') none a.carrier a.step x.move.0 (omega (arith, steps, x.move.1))
    (b.carrier, b.step, s, has)
carry_none l p n steps none _ has e = absurd (omega (arith, e))

pub carry_partner_none : (l : LineData) (p : Timetable) (n c k : ℕ)
    → NoneUnder n (l.degree * n) (λ c' k'. (s : ℤ) × CarriesTwo l p c k c' k' s) → (c' k' : ℕ) (s : ℤ) → k' < n
    → CarriesTwo l p c k c' k' s → ⊥
carry_partner_none l p n c k none c' k' s lt has =
    let (two, (h, t, z, z', x, y, is)) = has in
    none_at_all n l.degree (λ c' k'. (s : ℤ) × CarriesTwo l p c k c' k' s) none c' k' y.move.0 lt (s, has)
