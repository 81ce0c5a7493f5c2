-- Point 9: no begin is refused, and the frame follows the plan through it.
use Rattle.std.proofs.Common.{◌≡◌, ℕ, zero, suc, ◌+◌, ◌-◌, ◌≤◌, ◌<◌, Option, Some, None, Result, Ok, ⊎_elim, sym, refl, ap, subst, ◌∙◌, arith}
use Rattle.std.specs.Prelude.{true, false, ◌==◌, nat_lt}
use Rattle.std.proofs.lemmas.Bool.{cases_eq, eq-eqb, ne_eqb, le-ltb, lt-ltb, cond-true, cond-false}
use Rattle.tick_machine.specs.declared.frame.Carry.{Carry}
use Rattle.tick_machine.specs.declared.frame.Hold.{Hold}
use Rattle.tick_machine.specs.declared.frame.Rest.{Rest}
use Rattle.tick_machine.specs.declared.frame.Rest.TheVariants.{Lowering, Resting, Lifting}
use Rattle.tick_machine.specs.declared.breach.Breach.{Breach}
use Rattle.tick_machine.specs.Layout.{Layout}
use Rattle.tick_machine.specs.Scene.{Scene, Command, hold_of}
use Rattle.tick_machine.specs.Points.{tank_among, begin_rest, begin_hold, begin_tank, begun, refusal, no_begin_by, no_begin, carrying, begin_by, begin_move}
use Rattle.startup_rundown.proofs.Plan.{Plan, IsVisit, IsMove, IsPlan, Orders}
use Rattle.startup_rundown.proofs.Shown.{Clock, IsHeld, IsCarried, Shows, carry_of}
use Rattle.startup_rundown.proofs.Writes.{Same, Other, hold_same, hold_write, carry_same, carry_write}
use Rattle.startup_rundown.proofs.Ticks.{clock, rest_lift, enter_rest, setter_in, carry_order, still, begin_agree}

-- hoists below h have done point 9
abbrev pub beginning : Layout → ℕ → ℕ → Clock
beginning l t h = clock t (l.hoists + 1) (l.hoists + 1) (l.hoists + 1) h

-- who begins at the tick stands at the tank
abbrev pub Stands : Layout → Plan → ℕ → Scene → Type 0
Stands l s t f = (c k : ℕ) → IsMove s c k → s.lift c k ≡ t → f.at (s.lifter c k) ≡ l.place (s.tank c k)

tank_among_is : (l : Layout) (n i at : ℕ) → i < n → at ≡ l.place i → ((j : ℕ) → j < n → l.place j ≡ l.place i → j ≡ i)
    → tank_among l at n ≡ Some i
tank_among_is l zero i at lt here alone = absurd (omega arith)
tank_among_is l (suc n) i at lt here alone =
    ⊎_elim
    (λ same. let a : (l.place n == at) ≡ true = eq-eqb (l.place n) at (ap l.place same ∙ sym here) in cond-true
    (l.place n == at) _ _ a ∙ ap (λ (j : ℕ). Some j) same)
    (λ other.
    let no : l.place n ≡ at → ⊥ = λ e. other (alone n (omega arith) (e ∙ here)) in
    let a : (l.place n == at) ≡ false = ne_eqb (l.place n) at no in
    cond-false (l.place n == at) _ _ a ∙ tank_among_is l n i at (omega arith) here (λ j jn. alone j (omega arith)))
    (cases_eq n i)

begin_fine : (l : Layout) (h at from to c k age : ℕ) → k < l.last → l.serves to (k + 1) ≡ true → l.least k ≤ age
    → begin_rest l h at from to (hold_of c k (Resting age)) (Resting age) ≡ Ok (record { carrier = c; step = k; elapsed = 0; from = from; to = to })
begin_fine l h at from to c k age below serves old =
    cond-true (nat_lt k l.last) _ _ (lt-ltb k l.last below) ∙ cond-true (l.serves to (k + 1)) _ _ serves
    ∙ cond-false (nat_lt age (l.least k)) _ _ (le-ltb age (l.least k) old)

-- a visit that a hoist lifts is at a move
hoist_move : (l : Layout) (s : Plan) (c k : ℕ) → IsPlan l s → IsVisit s c k → s.lifter c k < l.hoists → IsMove s c k
hoist_move l s c k plan v by =
    ⊎_elim
    (λ e. absurd (let a : s.lifter c k ≡ s.lifter c s.last = ap (s.lifter c) e in omega (arith, (plan.offs c v.0).lifter)))
    (λ ne. (v.0, omega arith)) (cases_eq k s.last)

same_carries : (l : Layout) (s : Plan) (t h c k : ℕ) → (s.lifter c k ≡ h → s.lift c k ≡ t → ⊥)
    → Same (IsCarried s (beginning l t h)) (IsCarried s (beginning l t (h + 1))) c k
same_carries l s t h c k none = let g = still t h (s.lifter c k) (s.lift c k) none in (λ p. (omega (arith, p.0), p.1), λ p. (g.lt p.0, p.1))

-- a hoist that begins at the tick carries nothing before
idle : (l : Layout) (s : Plan) (t h c k : ℕ) (f : Scene) (o : Option Carry) → IsPlan l s → Shows s (beginning l t h) f
    → h < l.hoists → IsMove s c k → s.lifter c k ≡ h → s.lift c k ≡ t → f.carry h ≡ o → o ≡ None
idle l s t h c k f None plan shows there v by at has = refl
idle l s t h c k f (Some y) plan shows there v by at has =
    let g = shows.carries.carries h y has in
    let two = plan.carry_alone t y.carrier y.step c k g.0 v (omega (arith, g.1)) (omega (arith, g.2.0))
    (omega (arith, g.2.1, g.1)) (omega arith) (omega (arith, carry_order l s c k plan v)) in
    let e : s.lift y.carrier y.step ≡ s.lift c k = ap (λ i. s.lift i y.step) two.0 ∙ ap (s.lift c) two.1 in
    absurd (omega (arith, g.2.0, g.1))

only_lifting : (l : Layout) (s : Plan) (t h c k : ℕ) (r : Rest) → IsPlan l s → IsVisit s c k → s.lifter c k ≡ h
    → s.lift c k ≡ t → IsHeld s (beginning l t (h + 1)) c k r → r ≡ Lifting
only_lifting l s t h c k Lowering plan v by at held = absurd (omega (arith, held.2, rest_lift l s c k plan v, (setter_in l s c k plan v).0))
only_lifting l s t h c k (Resting age) plan v by at held = absurd (omega (arith, held.2.1))
only_lifting l s t h c k Lifting plan v by at held = refl

begin_at : (l : Layout) (s : Plan) (t h : ℕ) (o : Command) (f : Scene) (begin : Option ℕ) → IsPlan l s → Orders s t o
    → h < l.hoists → Stands l s t f → Shows s (beginning l t h) f → o.begin h ≡ begin
    → (no_begin_by l h begin f ≡ None) × Shows s (beginning l t (h + 1)) (begin_by l h begin f)
begin_at l s t h o f None plan orders there stands shows is =
    let none : (c k : ℕ) → IsMove s c k → s.lifter c k ≡ h → s.lift c k ≡ t → ⊥ =
    λ c k v by at. (let yes = orders.each_begin c k v at in let no : o.begin (s.lifter c k) ≡ None = ap o.begin by ∙ is in cc) in (
      refl,
      record {
        holds = hold_same s _ _ f.hold shows.holds (λ c k v. begin_agree s t h (l.hoists + 1) (l.hoists + 1)
            (l.hoists + 1) c k (still t h (s.lifter c k) (s.lift c k)
            (λ by at. none c k (hoist_move l s c k plan v (omega arith)) by at)));
        carries = carry_same s t _ _ f.carry shows.carries (λ c k v. same_carries l s t h c k (none c k v));
        next = record { few = shows.next.few; below = shows.next.below; rest = shows.next.rest };
      },
    )
begin_at l s t h o f (Some to) plan orders there stands shows is =
    let ev = orders.begin h to is in
    let c = ev.c in
    let k = ev.k in
    let v = ev.there in
    let by = ev.by in
    let at = ev.at in
    let visit : IsVisit s c k = (v.0, omega (arith, v.1)) in
    let m = plan.moves c k v in
    let age = t - s.rest c k in
    let a = rest_lift l s c k plan visit in
    let b = enter_rest l s c k plan visit in
    let agents = setter_in l s c k plan visit in
    let order = carry_order l s c k plan v in
    let was : f.hold (s.tank c k) ≡ Some (hold_of c k (Resting age)) = shows.holds.held c k (Resting age) visit
    (omega (arith, agents.1), omega (arith, m.lift_takes), (omega (arith, agents.0), omega arith, omega arith)) in
    let place : f.at h ≡ l.place (s.tank c k) = ap f.at (sym by) ∙ stands c k v at in
    let inside = plan.tanks c k visit in
    let found : tank_among l (f.at h) l.tanks ≡ Some (s.tank c k) = tank_among_is l l.tanks (s.tank c k)
    (f.at h) inside place (λ j lt e. plan.places j (s.tank c k) lt inside e) in
    let way : l.serves to (k + 1) ≡ true = ap (λ i. l.serves i (k + 1)) ev.to_tank ∙ m.way in
    let done : begun l h to f ≡ Ok (record { carrier = c; step = k; elapsed = 0; from = s.tank c k; to = to }) =
    ap (λ (i : Option ℕ). begin_tank l h (f.at h) to i f) found ∙ ap (λ (x : Option Hold). begin_hold l h (f.at h) (s.tank c k) to x) was
    ∙ begin_fine l h (f.at h) (s.tank c k) to c k age (omega (arith, v.1, plan.last)) way (omega (arith, plan.rests c k visit)) in
    let elapsed : 0 ≡ t - s.lift c k = omega arith in
    let is_carry : begun l h to f ≡ Ok (carry_of s t c k) =
    done ∙ ap (λ (e : ℕ). Ok (record { carrier = c; step = k; elapsed = e; from = s.tank c k; to = to })) elapsed
    ∙ ap (λ (i : ℕ). Ok (record { carrier = c; step = k; elapsed = t - s.lift c k; from = s.tank c k; to = i })) ev.to_tank in
    let none : f.carry h ≡ None = idle l s t h c k f (f.carry h) plan shows there v by at refl in
    let alone : (d j : ℕ) → IsMove s d j → Other c k d j → s.lifter d j ≡ h → s.lift d j ≡ t → ⊥ =
    λ d j v' other by' at'. other (plan.carry_alone t d j c k v' v (omega arith) (omega arith)
    (omega (arith, carry_order l s d j plan v')) (omega arith) (omega arith)) in (
      ap refusal is_carry,
      subst (λ (r : Result Carry Breach). Shows s (beginning l t (h + 1)) (carrying h r f)) (sym is_carry) (record {
        holds = hold_write s (IsHeld s (beginning l t h)) (IsHeld s (beginning l t (h + 1))) f.hold c k (s.tank c k) Lifting shows.holds visit refl
            (λ y here. let z : y ≡ hold_of c k (Resting age) = cc in (ap (λ (w : Hold). w.carrier) z, ap (λ (w : Hold). w.stage) z))
            (omega (arith, agents.1), omega (arith, m.lift_takes), (omega (arith, agents.0), omega arith))
            (λ r. only_lifting l s t h c k r plan visit by at)
            (λ d j v' other. begin_agree s t h (l.hoists + 1) (l.hoists + 1) (l.hoists + 1) d j (still t h (s.lifter d j) (s.lift d j)
            (λ by' at'. alone d j (hoist_move l s d j plan v' (omega arith)) other by' at')));
        carries = carry_write s t (IsCarried s (beginning l t h)) (IsCarried s (beginning l t (h + 1))) f.carry c k h shows.carries none v by
            (omega arith, omega arith)
            (λ d j v' other. same_carries l s t h d j (alone d j v' other));
        next = record { few = shows.next.few; below = shows.next.below; rest = shows.next.rest };
      }),
    )

pub begin_shows : (l : Layout) (s : Plan) (t h : ℕ) (o : Command) (f : Scene) → IsPlan l s → Orders s t o → h < l.hoists
    → Stands l s t f → Shows s (beginning l t h) f
    → (no_begin l o h f ≡ None) × Shows s (beginning l t (h + 1)) (begin_move l o h f)
begin_shows l s t h o f plan orders there stands shows = begin_at l s t h o f (o.begin h) plan orders there stands shows refl
