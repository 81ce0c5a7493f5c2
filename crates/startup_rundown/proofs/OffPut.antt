-- Points 6 and 7: the frame follows the plan through an off and a put.
use Rattle.std.proofs.Common.{◌≡◌, ℕ, ◌+◌, ◌-◌, ◌≤◌, ◌<◌, Some, None, ⊎_elim, sym, refl, ap, ◌∙◌, arith}
use Rattle.std.specs.Prelude.{Bool, true, false, cond, ◌==◌, nat_lt}
use Rattle.std.proofs.lemmas.Bool.{cases_eq, cases_order, eq-eqb, le-ltb, cond-true, cond-false}
use Rattle.tick_machine.specs.declared.frame.Hold.{Hold}
use Rattle.tick_machine.specs.declared.frame.Rest.{Rest}
use Rattle.tick_machine.specs.declared.frame.Rest.TheVariants.{Lowering, Resting, Lifting}
use Rattle.tick_machine.specs.Layout.{Layout}
use Rattle.tick_machine.specs.Scene.{Scene, Command, with, hold_of}
use Rattle.tick_machine.specs.Points.{no_off_rest, no_off_by, no_off, taken_off, held, no_put, put_on}
use Rattle.startup_rundown.proofs.Plan.{Plan, IsVisit, IsPlan, Orders}
use Rattle.startup_rundown.proofs.Shown.{IsHeld, Shows, ShowsNext}
use Rattle.startup_rundown.proofs.Writes.{Agree, hold_same, hold_write, hold_clear, carry_same}
use Rattle.startup_rundown.proofs.Ticks.{clock, rest_lift, still, free_agree, low_agree, set_agree}
use Rattle.startup_rundown.proofs.LowerIn.{is_free}

-- nobody but the off lifts at the last stage
off_only : (l : Layout) (s : Plan) (c k : ℕ) → IsPlan l s → IsVisit s c k → s.lifter c k ≡ l.hoists → k ≡ s.last
off_only l s c k plan v by = ⊎_elim (λ e. e) (λ ne. absurd (omega (arith, (plan.moves c k (v.0, omega arith)).there))) (cases_eq k s.last)

-- what is taken off at the tick rests at the unload
pub unloads : (l : Layout) (s : Plan) (t c : ℕ) (f : Scene) → IsPlan l s → Shows s (clock t l.hoists l.hoists 0 0) f
    → c < s.carriers → s.leave c s.last ≡ t
    → (f.hold l.unload_tank ≡ Some (hold_of c s.last (Resting (t - s.rest c s.last)))) × (l.least s.last ≤ t - s.rest c s.last)
unloads l s t c f plan shows v at =
    let visit : IsVisit s c s.last = (v, omega arith) in
    let j = s.last - 1 in
    let e : s.last ≡ j + 1 = omega (arith, plan.some_move) in
    let m = plan.moves c j (v, omega (arith, plan.some_move)) in
    let a : s.setter c s.last ≡ s.setter c (j + 1) = ap (s.setter c) e in
    let b : s.rest c s.last ≡ s.rest c (j + 1) = ap (s.rest c) e in
    let d : s.enter c s.last ≡ s.enter c (j + 1) = ap (s.enter c) e in
    let off = plan.offs c v in
    let rests = plan.rests c s.last visit in
    let was = shows.holds.held c s.last (Resting (t - s.rest c s.last)) visit (
      omega (arith, m.lower_takes, off.at_once),
      omega arith,
      (omega (arith, m.setter, m.there, off.at_once), omega (arith, off.at_once), omega (arith, off.at_once)),
    ) in
    (ap f.hold (sym off.tank) ∙ was, omega (arith, off.at_once))

off_fine : (l : Layout) (c k age : ℕ) → k ≡ l.last → l.least k ≤ age
    → no_off_rest l (hold_of c k (Resting age)) (Resting age) ≡ None
off_fine l c k age last old =
    let e : l.least k ≡ l.least l.last = ap l.least last in
    let a : (k == l.last) ≡ true = eq-eqb k l.last last in
    let b : nat_lt age (l.least l.last) ≡ false = le-ltb age (l.least l.last) (omega arith) in
    cond-true (k == l.last) _ _ a ∙ cond-false (nat_lt age (l.least l.last)) _ _ b

off_if : (l : Layout) (s : Plan) (t : ℕ) (o : Command) (f : Scene) (b : Bool) → IsPlan l s → Orders s t o
    → Shows s (clock t l.hoists l.hoists 0 0) f → o.off ≡ b
    → (cond b (no_off_by l (f.hold l.unload_tank)) None ≡ None)
    × Shows s (clock t l.hoists (l.hoists + 1) 0 0) (cond b (record f { hold = with f.hold l.unload_tank None }) f)
off_if l s t o f false plan orders shows is = (
  refl,
  record {
    holds = hold_same s _ _ f.hold shows.holds (λ c k v. free_agree s t l.hoists l.hoists 0 0 c k (still t l.hoists (s.lifter c k) (s.leave c k) (λ by at.
        let e = off_only l s c k plan v by in
        let a : s.leave c k ≡ s.leave c s.last = ap (s.leave c) e in
        let yes = orders.each_off c v.0 (omega arith) in
        cc)));
    carries = shows.carries;
    next = record { few = shows.next.few; below = shows.next.below; rest = shows.next.rest };
  },
)
off_if l s t o f true plan orders shows is =
    let ev = orders.off is in
    let c = ev.c in
    let here = unloads l s t c f plan shows ev.there ev.at in
    let fine = off_fine l c s.last (t - s.rest c s.last) plan.last here.1 in (
      ap (no_off_by l) here.0 ∙ fine,
      record {
        holds = hold_clear s (IsHeld s (clock t l.hoists l.hoists 0 0))
            (IsHeld s (clock t l.hoists (l.hoists + 1) 0 0)) f.hold c s.last l.unload_tank shows.holds
            (λ y e. let z : y ≡ hold_of c s.last (Resting (t - s.rest c s.last)) = let g = here.0 in cc in (
              ap
                  (λ (w : Hold). w.carrier) z,
              ap (λ (w : Hold). w.stage) z,
            ))
            (plan.offs c ev.there).tank
            (λ r on. omega (arith, on.1, (plan.offs c ev.there).lifter, ev.at))
            (λ d k v other. free_agree s t l.hoists l.hoists 0 0 d k (still t l.hoists (s.lifter d k) (s.leave d k) (λ by at.
            let e = off_only l s d k plan v by in
            let a : s.leave d k ≡ s.leave d s.last = ap (s.leave d) e in
            let there = unloads l s t d f plan shows v.0 (omega arith) in
            let two : hold_of d s.last (Resting (t - s.rest d s.last)) ≡ hold_of c s.last (Resting (t - s.rest c s.last)) = let g = here.0 in let g' = there.0 in cc in
            other (ap (λ (w : Hold). w.carrier) two, e))));
        carries = shows.carries;
        next = record { few = shows.next.few; below = shows.next.below; rest = shows.next.rest };
      },
    )

pub off_shows : (l : Layout) (s : Plan) (t : ℕ) (o : Command) (f : Scene) → IsPlan l s → Orders s t o
    → Shows s (clock t l.hoists l.hoists 0 0) f
    → (no_off l o f ≡ None) × Shows s (clock t l.hoists (l.hoists + 1) 0 0) (taken_off l o f)
off_shows l s t o f plan orders shows = off_if l s t o f o.off plan orders shows refl

-- nobody but the put lowers and sets at stage 0
put_only : (l : Layout) (s : Plan) (c k : ℕ) → IsPlan l s → IsVisit s c k → (k ≡ 0 → ⊥)
    → (0 < s.lowerer c k) × (s.setter c k < l.hoists)
put_only l s c k plan v ne =
    let e : k ≡ k - 1 + 1 = omega arith in
    let a : s.setter c k ≡ s.setter c (k - 1 + 1) = ap (s.setter c) e in
    let b : s.lowerer c k ≡ s.lowerer c (k - 1 + 1) = ap (s.lowerer c) e in
    let m = plan.moves c (k - 1) (v.0, omega (arith, v.1)) in
    (omega (arith, m.lowerer), omega (arith, m.setter, m.there))

both : (P Q R : ℕ → ℕ → Rest → Type 0) (c k : ℕ) → Agree P Q c k → Agree Q R c k → Agree P R c k
both P Q R c k a b r = (λ h. (b r).0 ((a r).0 h), λ h. (a r).1 ((b r).1 h))

put_agree : (l : Layout) (s : Plan) (t c k : ℕ) → IsPlan l s → IsVisit s c k → (k ≡ 0 → s.rest c k ≡ t → ⊥)
    → Agree (IsHeld s (clock t l.hoists (l.hoists + 1) 0 0)) (IsHeld s (clock t (l.hoists + 1) (l.hoists + 1) 1 0)) c k
put_agree l s t c k plan v none =
    both (IsHeld s (clock t l.hoists (l.hoists + 1) 0 0)) (IsHeld s (clock t l.hoists (l.hoists + 1) 1 0))
    (IsHeld s (clock t (l.hoists + 1) (l.hoists + 1) 1 0)) c k
    (low_agree s t 0 l.hoists (l.hoists + 1) 0 c k (still t 0 (s.lowerer c k) (s.enter c k) (λ by at.
    ⊎_elim
    (λ e. none e (let a : s.enter c k ≡ s.enter c 0 = ap (s.enter c) e in let b : s.rest c k
    ≡ s.rest c 0 = ap (s.rest c) e in omega (arith, (plan.puts c v.0).at_once)))
    (λ ne. omega (arith, (put_only l s c k plan v ne).0))
    (cases_eq k 0))))
    (set_agree s t l.hoists (l.hoists + 1) 1 0 c k (λ by at.
    ⊎_elim (λ e. none e at) (λ ne. omega (arith, (put_only l s c k plan v ne).1)) (cases_eq k 0)))

only_zero : (l : Layout) (s : Plan) (t d : ℕ) (r : Rest) → s.rest d 0 ≡ t → s.rest d 0 ≤ s.lift d 0
    → s.setter d 0 ≡ l.hoists → IsHeld s (clock t (l.hoists + 1) (l.hoists + 1) 1 0) d 0 r → r ≡ Resting 0
only_zero l s t d Lowering at le by held = absurd (omega (arith, held.2))
only_zero l s t d (Resting age) at le by held = ap (λ (n : ℕ). Resting n) (omega (arith, held.2.2))
only_zero l s t d Lifting at le by held = absurd (omega (arith, held.2.1))

-- the carrier that is put on at the tick is the next one
put_next : (l : Layout) (s : Plan) (t c next : ℕ) → IsPlan l s → ShowsNext s (clock t l.hoists (l.hoists + 1) 0 0) next
    → c < s.carriers → s.rest c 0 ≡ t → next ≡ c
put_next l s t c next plan shows there at =
    ⊎_elim (λ e. e)
    (λ other. ⊎_elim
    (λ less. absurd (omega (arith, plan.numbered next c less there, shows.rest next (omega arith) (omega arith))))
    (λ more. absurd (omega (arith, shows.below c more, (plan.puts c there).setter)))
    other)
    (cases_order next c)

put_if : (l : Layout) (s : Plan) (t : ℕ) (o : Command) (f : Scene) (b : Bool) → IsPlan l s → Orders s t o
    → Shows s (clock t l.hoists (l.hoists + 1) 0 0) f → o.put ≡ b
    → (cond b (held l.load_tank (f.hold l.load_tank)) None ≡ None)
    × Shows s (clock t (l.hoists + 1) (l.hoists + 1) 1 0) (cond b (record f {
      hold = with f.hold l.load_tank
          (Some (record { carrier = f.next; stage = 0; rest = Resting 0 }));
      next = f.next + 1;
    }) f)
put_if l s t o f false plan orders shows is = (
  refl,
  record {
    holds = hold_same s _ _ f.hold shows.holds (λ c k v. put_agree l s t c k plan v (λ zero_k at.
        let a : s.rest c k ≡ s.rest c 0 = ap (s.rest c) zero_k in
        let yes = orders.each_put c v.0 (omega arith) in
        cc));
    carries = carry_same s t _ _ f.carry shows.carries (λ c k v. let m = (plan.moves c k v).there in (
      λ g.
          (g.0, omega (arith, g.1)),
      λ g. (g.0, omega (arith, g.1)),
    ));
    next = record {
      few = shows.next.few;
      below = λ c lt. omega (arith, shows.next.below c lt);
      rest = λ c lt le.
          let no : s.rest c 0 ≡ t → ⊥ = λ at. let yes = orders.each_put c lt at in cc in
          omega (arith, shows.next.rest c lt le);
    };
  },
)
put_if l s t o f true plan orders shows is =
    let ev = orders.put is in
    let d = f.next in
    let e : d ≡ ev.c = put_next l s t ev.c d plan shows.next ev.there ev.at in
    let there : d < s.carriers = omega (arith, ev.there) in
    let at : s.rest d 0 ≡ t = ap (λ n. s.rest n 0) e ∙ ev.at in
    let p = plan.puts d there in
    let visit : IsVisit s d 0 = (there, omega arith) in
    let a = rest_lift l s d 0 plan visit in
    let m = plan.moves d 0 (there, plan.some_move) in
    let was : f.hold (s.tank d 0) ≡ None = is_free l s t l.hoists 0 d 0 f (f.hold (s.tank d 0)) plan shows visit
    (omega (arith, p.at_once)) p.lowerer (omega (arith, m.lift_takes)) refl in
    let free : f.hold l.load_tank ≡ None = ap f.hold (sym p.tank) ∙ was in (
      ap (held l.load_tank) free,
      record {
        holds = hold_write s (IsHeld s (clock t l.hoists (l.hoists + 1) 0 0))
            (IsHeld s (clock t (l.hoists + 1) (l.hoists + 1) 1 0)) f.hold d 0 l.load_tank
            (Resting 0) shows.holds visit p.tank
            (λ y here. absurd (let z = free in cc))
            (omega (arith, p.at_once, p.lowerer), omega (arith, m.lift_takes, m.there), (omega (arith, p.setter), omega arith, omega arith))
            (λ r. only_zero l s t d r at a p.setter)
            (λ c k v other. put_agree l s t c k plan v (λ zero_k same.
            let b : s.rest c k ≡ s.rest c 0 = ap (s.rest c) zero_k in
            let two : d ≡ c = put_next l s t c d plan shows.next v.0 (omega arith) in
            other (sym two, zero_k)));
        carries = carry_same s t _ _ f.carry shows.carries (λ c k v. let q = (plan.moves c k v).there in (
          λ g.
              (g.0, omega (arith, g.1)),
          λ g. (g.0, omega (arith, g.1)),
        ));
        next = record {
          few = omega arith;
          below = λ c lt. ⊎_elim
              (λ same. let q : s.rest c 0 ≡ s.rest d 0 = ap (λ n. s.rest n 0) same in omega (arith, (plan.puts c (omega arith)).setter))
              (λ other. omega (arith, shows.next.below c (omega arith)))
              (cases_eq c d);
          rest = λ c lt le. omega (arith, plan.numbered d c (omega arith) lt);
        };
      },
    )

pub put_shows : (l : Layout) (s : Plan) (t : ℕ) (o : Command) (f : Scene) → IsPlan l s → Orders s t o
    → Shows s (clock t l.hoists (l.hoists + 1) 0 0) f
    → (no_put l o f ≡ None) × Shows s (clock t (l.hoists + 1) (l.hoists + 1) 1 0) (put_on l o f)
put_shows l s t o f plan orders shows = put_if l s t o f o.put plan orders shows refl
