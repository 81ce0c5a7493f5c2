-- The order of a plan's ticks, and what a step of the clock leaves as it was.
use Rattle.std.proofs.Common.{◌≡◌, ℕ, ◌+◌, ◌-◌, ◌≤◌, ◌<◌, ⊎_elim, ap, arith}
use Rattle.std.proofs.lemmas.Bool.{cases_eq}
use Rattle.tick_machine.specs.declared.frame.Rest.TheVariants.{Lowering, Resting, Lifting}
use Rattle.tick_machine.specs.Layout.{Layout}
use Rattle.startup_rundown.proofs.Plan.{Plan, IsVisit, IsMove, IsPlan}
use Rattle.startup_rundown.proofs.Shown.{Clock, until, IsHeld}
use Rattle.startup_rundown.proofs.Writes.{Agree}

abbrev pub clock : ℕ → ℕ → ℕ → ℕ → ℕ → Clock
clock t set free low begin = record { tick = t; set = set; free = free; low = low; begin = begin }

-- a visit ends after its lift has begun, or at once
pub lift_leave : (l : Layout) (s : Plan) (c k : ℕ) → IsPlan l s → IsVisit s c k → s.lift c k ≤ s.leave c k
lift_leave l s c k plan v =
    ⊎_elim
    (λ e. let a : s.lift c k ≡ s.lift c s.last = ap (s.lift c) e in let b : s.leave c k
    ≡ s.leave c s.last = ap (s.leave c) e in omega (arith, (plan.offs c v.0).at_once))
    (λ ne. omega (arith, (plan.moves c k (v.0, omega arith)).lift_takes))
    (cases_eq k s.last)

pub rest_lift : (l : Layout) (s : Plan) (c k : ℕ) → IsPlan l s → IsVisit s c k → s.rest c k ≤ s.lift c k
rest_lift l s c k plan v = omega (arith, plan.rests c k v)

pub carry_order : (l : Layout) (s : Plan) (c k : ℕ) → IsPlan l s → IsMove s c k → s.lift c k < s.rest c (k + 1)
carry_order l s c k plan v = let m = plan.moves c k v in omega (arith, m.lift_takes, m.apart, m.lower_takes)

-- setting down: nothing but the set-downs of the nth at the tick
pub set_agree : (s : Plan) (t n free low begin c k : ℕ) → (s.setter c k ≡ n → s.rest c k ≡ t → ⊥)
    → Agree (IsHeld s (clock t n free low begin)) (IsHeld s (clock t (n + 1) free low begin)) c k
set_agree s t n free low begin c k none Lowering = let ne = cases_eq (s.setter c k) n in
    ⊎_elim (λ e. let no : s.rest c k ≡ t → ⊥ = none e in (
      λ h. (h.0, h.1, omega (arith, h.2)),
      λ h. (h.0, h.1, omega (arith, h.2)),
    )) (λ no. (
      λ h. (h.0, h.1, omega (arith, h.2)),
      λ h. (h.0, h.1, omega (arith, h.2)),
    )) ne
set_agree s t n free low begin c k none (Resting age) = let ne = cases_eq (s.setter c k) n in
    ⊎_elim (λ e. let no : s.rest c k ≡ t → ⊥ = none e in (
      λ h. (h.0, h.1, (omega (arith, h.2.0), h.2.1, h.2.2)),
      λ h. (h.0, h.1, (omega (arith, h.2.0), h.2.1, h.2.2)),
    ))
    (λ no. (λ h. (h.0, h.1, (omega (arith, h.2.0), h.2.1, h.2.2)), λ h. (h.0, h.1, (omega (arith, h.2.0), h.2.1, h.2.2)))) ne
set_agree s t n free low begin c k none Lifting = let ne = cases_eq (s.setter c k) n in
    ⊎_elim (λ e. let no : s.rest c k ≡ t → ⊥ = none e in (λ h. (h.0, h.1, (omega (arith, h.2.0), h.2.1)), λ h. (h.0, h.1, (omega (arith, h.2.0), h.2.1))))
    (λ no. (λ h. (h.0, h.1, (omega (arith, h.2.0), h.2.1)), λ h. (h.0, h.1, (omega (arith, h.2.0), h.2.1)))) ne

pub enter_rest : (l : Layout) (s : Plan) (c k : ℕ) → IsPlan l s → IsVisit s c k → s.enter c k ≤ s.rest c k
enter_rest l s c k plan v =
    ⊎_elim
    (λ e. let a : s.enter c k ≡ s.enter c 0 = ap (s.enter c) e in let b : s.rest c k ≡ s.rest c 0 = ap (s.rest c) e in omega (arith, (plan.puts c v.0).at_once))
    (λ ne.
    let e : k ≡ k - 1 + 1 = omega arith in
    let a : s.enter c k ≡ s.enter c (k - 1 + 1) = ap (s.enter c) e in
    let b : s.rest c k ≡ s.rest c (k - 1 + 1) = ap (s.rest c) e in
    omega (arith, (plan.moves c (k - 1) (v.0, omega (arith, v.1))).lower_takes))
    (cases_eq k 0)

-- the numbers of those who do it
pub lifter_in : (l : Layout) (s : Plan) (c k : ℕ) → IsPlan l s → IsVisit s c k → s.lifter c k ≤ l.hoists
lifter_in l s c k plan v =
    ⊎_elim
    (λ e. let a : s.lifter c k ≡ s.lifter c s.last = ap (s.lifter c) e in omega (arith, (plan.offs c v.0).lifter))
    (λ ne. omega (arith, (plan.moves c k (v.0, omega arith)).there))
    (cases_eq k s.last)

pub setter_in : (l : Layout) (s : Plan) (c k : ℕ) → IsPlan l s → IsVisit s c k
    → (s.setter c k ≤ l.hoists) × (s.lowerer c k ≤ l.hoists)
setter_in l s c k plan v =
    ⊎_elim
    (λ e. let a : s.setter c k ≡ s.setter c 0 = ap (s.setter c) e in let b : s.lowerer c k ≡ s.lowerer c 0 = ap (s.lowerer c) e in
    let p = plan.puts c v.0 in (omega (arith, p.setter), omega (arith, p.lowerer)))
    (λ ne.
    let e : k ≡ k - 1 + 1 = omega arith in
    let a : s.setter c k ≡ s.setter c (k - 1 + 1) = ap (s.setter c) e in
    let b : s.lowerer c k ≡ s.lowerer c (k - 1 + 1) = ap (s.lowerer c) e in
    let m = plan.moves c (k - 1) (v.0, omega (arith, v.1)) in
    (omega (arith, m.setter, m.there), omega (arith, m.lowerer, m.there)))
    (cases_eq k 0)

-- an event of the one with number h at tick e is not that of the nth at tick t
pub record Still (t n h e : ℕ) : Type 0 where
  pub le : until t n h ≤ e → until t (n + 1) h ≤ e
  pub lt : e < until t (n + 1) h → e < until t n h

pub still : (t n h e : ℕ) → (h ≡ n → e ≡ t → ⊥) → Still t n h e
still t n h e none = ⊎_elim
    (λ same. let no : e ≡ t → ⊥ = none same in record { le = λ p. omega arith; lt = λ p. omega arith })
    (λ other. record { le = λ p. omega arith; lt = λ p. omega arith })
    (cases_eq h n)

pub free_agree : (s : Plan) (t n set low begin c k : ℕ) → Still t n (s.lifter c k) (s.leave c k)
    → Agree (IsHeld s (clock t set n low begin)) (IsHeld s (clock t set (n + 1) low begin)) c k
free_agree s t n set low begin c k same r = (λ h. (h.0, same.le h.1, h.2), λ h. (h.0, omega (arith, h.1), h.2))

pub low_agree : (s : Plan) (t n set free begin c k : ℕ) → Still t n (s.lowerer c k) (s.enter c k)
    → Agree (IsHeld s (clock t set free n begin)) (IsHeld s (clock t set free (n + 1) begin)) c k
low_agree s t n set free begin c k same r = (λ h. (omega (arith, h.0), h.1, h.2), λ h. (same.lt h.0, h.1, h.2))

pub begin_agree : (s : Plan) (t n set free low c k : ℕ) → Still t n (s.lifter c k) (s.lift c k)
    → Agree (IsHeld s (clock t set free low n)) (IsHeld s (clock t set free low (n + 1))) c k
begin_agree s t n set free low c k same Lowering = (λ h. h, λ h. h)
begin_agree s t n set free low c k same (Resting age) = (λ h. (h.0, h.1, (h.2.0, same.le h.2.1, h.2.2)), λ h. (h.0, h.1, (h.2.0, omega (arith, h.2.1), h.2.2)))
begin_agree s t n set free low c k same Lifting = (λ h. (h.0, h.1, (h.2.0, omega (arith, h.2.1))), λ h. (h.0, h.1, (h.2.0, same.lt h.2.1)))
