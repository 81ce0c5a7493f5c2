-- What a step that is made leads to, said of the two frames alone.
use Rattle.std.proofs.Common.{◌≡◌, ℕ, ◌+◌, ◌≤◌, ◌<◌, Bool, Option, Some, None, Ok, IfSome, ◌⊎◌, inl, inr, ⊎_elim, sym, refl, ap, subst, ◌∙◌, arith}
use Rattle.std.specs.Prelude.{true, false, cond, nat_lt}
use Rattle.std.proofs.lemmas.Bool.{ltb-false, cond_both}
use Rattle.tick_machine.specs.declared.breach.Breach.TheVariants.{Late}
use Rattle.tick_machine.specs.declared.frame.Carry.{Carry}
use Rattle.tick_machine.specs.declared.frame.Hold.{Hold}
use Rattle.tick_machine.specs.declared.frame.Rest.TheVariants.{Resting}
use Rattle.tick_machine.specs.declared.order.Go.{Go}
use Rattle.tick_machine.specs.declared.order.Go.TheVariants.{Stay, Low, High}
use Rattle.tick_machine.specs.Layout.{Layout, IsLayout, move_place}
use Rattle.tick_machine.specs.Scene.{Scene, Command, with, hold_of}
use Rattle.tick_machine.specs.Points.{length_of, grown, moved_to, put_on, late, late_by, late_rest}
use Rattle.tick_machine.specs.Step.{after_tick, after_free, after_off, after_put, after_lowering, after_begin, step}
use Rattle.tick_machine.specs.Rules.{KeepsRules}
use Rattle.tick_machine.proofs.Passes.{first_pass}
use Rattle.tick_machine.proofs.PartwayTick.{GrownFrom, grown_from}
use Rattle.tick_machine.proofs.PartwayStep.{step_keeps}
use Rattle.machine_loops.proofs.StepBack.{Rests, Comes, set_all, freed, lowered, off_kept, begin_all, came}
use Rattle.machine_loops.proofs.StepOn.{IsIn, tests_of, carried_before, carried_at_first, carries_on}
use Rattle.machine_loops.proofs.StepStays.{TakenOff, stays_in, put_in_line}

-- the carry y begins at the end of the step, of a carrier that has rested within its window
pub record BeginsFrom (l : Layout) (f g : Scene) (y : Carry) : Type 0 where
  pub age : ℕ
  pub new : y.elapsed ≡ 0
  pub comes : Comes l f g y.from y.carrier y.step age
  pub old_enough : l.least y.step ≤ age
  pub young_enough : IfSome (l.greatest y.step) (λ m. age ≤ m)

pub record Passes (l : Layout) (f g : Scene) : Type 0 where
  pub next : (g.next ≡ f.next) ⊎ (g.next ≡ f.next + 1)
  pub rests : (i c k age : ℕ) → Rests g i c k age → Comes l f g i c k age
  pub carried : (h : ℕ) (y : Carry) → g.carry h ≡ Some y → BeginsFrom l f g y ⊎ GrownFrom (f.carry h) y
  pub goes_on : (h : ℕ) (y : Carry) → f.carry h ≡ Some y → y.elapsed + 1 < length_of l y → g.carry h ≡ Some (grown y)
  pub along : (h : ℕ) (y : Carry) → f.carry h ≡ Some y → g.at h ≡ move_place l y.step y.from y.to (y.elapsed + 1)
  pub near : (h : ℕ) → (g.at h ≤ f.at h + 1) × (f.at h ≤ g.at h + 1)
  pub stays : (c : ℕ) → IsIn f c → TakenOff l f g c ⊎ IsIn g c
  pub put : g.next ≡ f.next + 1 → IsIn g f.next

place_near : (l : Layout) (k from to u : ℕ)
    → (move_place l k from to (u + 1) ≤ move_place l k from to u + 1) × (move_place l k from to u ≤ move_place l k from to (u + 1) + 1)
unfolding move_place
place_near l k from to u = (omega arith, omega arith)

moved_near : (l : Layout) (q : Option Carry) (go : Go) (at : ℕ)
    → ((y : Carry) → q ≡ Some y → at ≡ move_place l y.step y.from y.to y.elapsed)
    → (moved_to l q go at ≤ at + 1) × (at ≤ moved_to l q go at + 1)
moved_near l None Stay at way = (omega arith, omega arith)
moved_near l None Low at way = (omega arith, omega arith)
moved_near l None High at way = (omega arith, omega arith)
moved_near l (Some y) go at way =
    let here = way y refl in
    let (up, down) = place_near l y.step y.from y.to y.elapsed in
    (omega arith, omega arith)

-- points 4 to 9 move no hoist
put_stands : (l : Layout) (o : Command) (f : Scene) → (put_on l o f).at ≡ f.at
put_stands l o f = cond_both o.put (record f {
  hold = with f.hold l.load_tank (Some (hold_of f.next 0 (Resting 0)));
  next = f.next + 1;
}) f (λ s. s.at ≡ f.at) (λ e. refl) (λ e. refl)

stands : (l : Layout) (o : Command) (f : Scene) → (after_begin l o f).at ≡ (after_tick l o f).at
stands l o f =
    (begin_all l o (after_lowering l o f)).at ∙ (lowered l o f).at ∙ put_stands l o (after_off l o f)
    ∙ (off_kept l o (after_free l o f)).at ∙ (freed l o f).at ∙ (set_all l (after_tick l o f)).at

-- the next carrier
off_next : (l : Layout) (o : Command) (f : Scene) → (after_off l o f).next ≡ f.next
off_next l o f = (off_kept l o (after_free l o f)).next ∙ (freed l o f).next ∙ (set_all l (after_tick l o f)).next

end_next : (l : Layout) (o : Command) (f : Scene) → (after_begin l o f).next ≡ (after_put l o f).next
end_next l o f = (begin_all l o (after_lowering l o f)).next ∙ (lowered l o f).next

put_next : (l : Layout) (o : Command) (s : Scene) → ((put_on l o s).next ≡ s.next) ⊎ ((put_on l o s).next ≡ s.next + 1)
put_next l o s =
    cond_both o.put (record s {
      hold = with s.hold l.load_tank (Some (hold_of s.next 0 (Resting 0)));
      next = s.next + 1;
    }) s (λ x. (x.next ≡ s.next) ⊎ (x.next ≡ s.next + 1)) (λ e. inr refl) (λ e. inl refl)

-- point 10
young_if : (x : Hold) (age m : ℕ) (b : Bool) → nat_lt m age ≡ b
    → cond b (Some (Late x.carrier x.stage age m)) None ≡ None → age ≤ m
young_if x age m true is none = absurd (let g = none in cc)
young_if x age m false is none = ltb-false m age is

young : (x : Hold) (age : ℕ) (o : Option ℕ) → late_rest x age o ≡ None → IfSome o (λ m. age ≤ m)
young x age None none = tt
young x age (Some m) none = young_if x age m (nat_lt m age) refl none

pub passes : (l : Layout) (o : Command) (f g : Scene) → IsLayout l → KeepsRules l f → step l o f ≡ Ok g → Passes l f g
passes l o f g layout rules made =
    let tests = tests_of l o f g made in
    let t : Scene = after_tick l o f in
    let m : Scene = after_lowering l o f in
    let end : Scene = after_begin l o f in
    let keeps : KeepsRules l end = subst (λ (s : Scene). KeepsRules l s) (sym tests.end) (step_keeps l o f g layout rules made) in
    let begins = begin_all l o m in
    let at : end.at ≡ t.at = stands l o f in
    let off = off_next l o f in
    let next = end_next l o f in
    let facts : Passes l f end = record {
      next = ⊎_elim (λ same. inl (next ∙ same ∙ off)) (λ more. inr (next ∙ more ∙ ap (λ (n : ℕ). n + 1) off)) (put_next l o (after_off l o f));
      rests = λ i c k age e. came l o f i c k age (begins.rests i c k age e);
      carried = λ h y e. ⊎_elim
          (λ started. inl (record {
            age = started.age;
            new = started.new;
            comes = came l o f y.from y.carrier y.step started.age started.rests;
            old_enough = started.old_enough;
            young_enough =
                let there = layout.there y.from y.step (keeps.carries h y e).from in
                let on_time = first_pass l.tanks (late l m) y.from tests.late there in
                young (hold_of y.carrier y.step (Resting started.age)) started.age (l.greatest y.step) (ap (late_by l) (sym started.rests) ∙ on_time);
          }))
          (λ was. inr (grown_from (f.carry h) y (carried_at_first l o f h y (carried_before l o f h y was))))
          (begins.carry h y e);
      goes_on = λ h y has going. carries_on l o f g h y tests (rules.carries h y has).there has going;
      along = λ h y has. ap (λ (place : ℕ → ℕ). place h) at ∙ ap (λ (q : Option Carry). moved_to l q (o.go h) (f.at h)) has;
      near = λ h.
          let here : end.at h ≡ moved_to l (f.carry h) (o.go h) (f.at h) = ap (λ (place : ℕ → ℕ). place h) at in
          let (up, down) = moved_near l (f.carry h) (o.go h) (f.at h) (λ y has. (rules.carries h y has).at) in
          (omega arith, omega arith);
      stays = λ c there. stays_in l o f g c layout rules tests there;
      put = λ more. put_in_line l o f g layout rules tests off (sym next ∙ more);
    } in
    subst (λ (s : Scene). Passes l f s) tests.end facts
