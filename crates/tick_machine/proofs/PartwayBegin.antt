-- Point 9 keeps the frame rules for any order.
use Rattle.std.proofs.Common.{◌≡◌, ℕ, ◌+◌, ◌<◌, Option, Some, None, ⊎_elim, sym, refl, ap, subst, ◌∙◌, arith}
use Rattle.std.specs.Prelude.{true}
use Rattle.std.proofs.lemmas.Bool.{cases_eq}
use Rattle.tick_machine.specs.declared.frame.Carry.{Carry}
use Rattle.tick_machine.specs.declared.frame.Hold.{Hold}
use Rattle.tick_machine.specs.declared.frame.Rest.{Rest}
use Rattle.tick_machine.specs.declared.frame.Rest.TheVariants.{Lowering, Resting, Lifting}
use Rattle.tick_machine.specs.Layout.{Layout, move_place}
use Rattle.tick_machine.specs.Scene.{Scene, with, hold_of}
use Rattle.tick_machine.specs.Points.{length_of}
use Rattle.tick_machine.specs.Rules.{RestsIn}
use Rattle.tick_machine.proofs.Writes.{with_same, with_other}
use Rattle.tick_machine.proofs.Partway.{CarryPart, HoldPart, RestPart, Parts}

rest_stays : (l : Layout) (n h i c k : ℕ) (f : Scene) (v : Option Carry) (r : Rest) → f.carry h ≡ None
    → RestPart l n n f.carry i c k r → RestPart l n n (with f.carry h v) i c k r
rest_stays l n h i c k f v Lowering none g = record {
  h = g.h;
  y = g.y;
  carrier = g.carrier;
  step = g.step;
  tank = g.tank;
  on = g.on;
  is = with_other f.carry h v g.h (λ same. let a = ap f.carry same in let b = g.is in cc) ∙ g.is;
}
rest_stays l n h i c k f v (Resting age) none g = tt
rest_stays l n h i c k f v Lifting none g = record {
  h = g.h;
  y = g.y;
  carrier = g.carrier;
  step = g.step;
  tank = g.tank;
  on = g.on;
  is = with_other f.carry h v g.h (λ same. let a = ap f.carry same in let b = g.is in cc) ∙ g.is;
}

pub begins_keep : (l : Layout) (n h c k age from to : ℕ) (f : Scene) (x : Carry) → Parts l n n n f → h < n
    → h < l.hoists → f.at h ≡ move_place l x.step x.from x.to x.elapsed → f.carry h ≡ None
    → f.hold from ≡ Some (hold_of c k (Resting age))
    → k < l.last → l.serves to (k + 1) ≡ true → 0 < l.lift k → l.lower (k + 1) < length_of l x
    → x ≡ record { carrier = c; step = k; elapsed = 0; from = from; to = to }
    → Parts l n n n (record f { carry = with f.carry h (Some x); hold = with f.hold from (Some (hold_of c k Lifting)) })
begins_keep l n h c k age from to f x rules there on_line at none has below way lift long is =
    let u : Option Carry = Some x in
    let v : Option Hold = Some (hold_of c k Lifting) in
    let own = rules.holds from (hold_of c k (Resting age)) has in
    let after : Scene = record f { carry = with f.carry h u; hold = with f.hold from v } in
    let carrier : x.carrier ≡ c = ap (λ (z : Carry). z.carrier) is in
    let step : x.step ≡ k = ap (λ (z : Carry). z.step) is in
    let elapsed : x.elapsed ≡ 0 = ap (λ (z : Carry). z.elapsed) is in
    let at_from : x.from ≡ from = ap (λ (z : Carry). z.from) is in
    let at_to : x.to ≡ to = ap (λ (z : Carry). z.to) is in
    let lifts : l.lift x.step ≡ l.lift k = ap l.lift step in
    let lowers : l.lower (x.step + 1) ≡ l.lower (k + 1) = ap (λ (j : ℕ). l.lower (j + 1)) step in
    let keep : (i d m : ℕ) (w : Rest) → ((a : ℕ) → w ≡ Resting a → ⊥) → f.hold i ≡ Some (hold_of d m w) → with f.hold from v i ≡ Some (hold_of d m w) =
    λ i d m w moving e. with_other f.hold from v i
    (λ same.
    let two : hold_of d m w ≡ hold_of c k (Resting age) = let a = ap f.hold same in cc in
    moving age (ap (λ (z : Hold). z.rest) two)) ∙ e in
    let lifting : (a : ℕ) → Lifting ≡ Resting a → ⊥ = λ a e. absurd (let g = e in cc) in
    let lowering : (a : ℕ) → Lowering ≡ Resting a → ⊥ = λ a e. absurd (let g = e in cc) in
    let resting : (d i : ℕ) → RestsIn after d i → (from ≡ i → ⊥) × RestsIn f d i =
    λ d i (m, old, e). ⊎_elim
    (λ here.
    let two : hold_of c k Lifting ≡ hold_of d m (Resting old) = let a = with_same f.hold from v i here in let b = e in cc in
    absurd (lifting old (ap (λ (z : Hold). z.rest) two)))
    (λ other. (other, (m, old, sym (with_other f.hold from v i other) ∙ e)))
    (cases_eq from i) in
    let rested : RestsIn f c from = (k, age, has) in
    let same_or_old : (h' : ℕ) (y : Carry) → with f.carry h u h' ≡ Some y → (P : Type 0) → (h ≡ h' → x ≡ y → P) → ((h ≡ h' → ⊥) → f.carry h' ≡ Some y → P) → P =
    λ h' y e P new old. ⊎_elim
    (λ here. new here (let a = with_same f.carry h u h' here in let b = e in cc))
    (λ other. old other (sym (with_other f.carry h u h' other) ∙ e))
    (cases_eq h h') in
    let new_rule : CarryPart l n n n after h x = record {
      there = on_line;
      at = at;
      step = omega arith;
      from = ap (λ (i : ℕ). l.serves i x.step) at_from ∙ ap (l.serves from) step ∙ own.serves;
      to = ap (λ (i : ℕ). l.serves i (x.step + 1)) at_to ∙ ap (λ (j : ℕ). l.serves to (j + 1)) step ∙ way;
      known = let g = own.known in omega arith;
      going = omega arith;
      lifting = λ on. with_same f.hold from v x.from (sym at_from)
          ∙ ap (λ (d : ℕ). Some (hold_of d k Lifting)) (sym carrier)
          ∙ ap (λ (m : ℕ). Some (hold_of x.carrier m Lifting)) (sym step);
      lowering = λ on. absurd (omega (arith, on));
    } in
    record {
      carries = λ h' y e. same_or_old h' y e (CarryPart l n n n after h' y)
          (λ here two. subst (λ (z : Carry). CarryPart l n n n after h' z) two (subst (λ (j : ℕ). CarryPart l n n n after j x) here new_rule))
          (λ other was.
          let r = rules.carries h' y was in
          record {
            there = r.there;
            at = r.at;
            step = r.step;
            from = r.from;
            to = r.to;
            known = r.known;
            going = r.going;
            lifting = λ on. keep y.from y.carrier y.step Lifting lifting (r.lifting on);
            lowering = λ on. keep y.to y.carrier (y.step + 1) Lowering lowering (r.lowering on);
          });
      holds = λ i y e.
          ⊎_elim
          (λ here.
          let two : hold_of c k Lifting ≡ y = let a = with_same f.hold from v i here in cc in
          subst (λ (z : Hold). HoldPart l n n after i z) two (record {
            serves = ap (λ (j : ℕ). l.serves j k) (sym here) ∙ own.serves;
            known = own.known;
            rest = record { h = h; y = x; is = with_same f.carry h u h refl; carrier = carrier; step = step; tank = at_from ∙ here; on = omega arith };
          }))
          (λ other.
          let r = rules.holds i y (sym (with_other f.hold from v i other) ∙ e) in
          record { serves = r.serves; known = r.known; rest = rest_stays l n h i y.carrier y.stage f u y.rest none r.rest })
          (cases_eq from i);
      one_hoist = λ h1 h2 y1 y2 e1 e2 same.
          same_or_old h1 y1 e1 (h1 ≡ h2)
          (λ here1 two1. same_or_old h2 y2 e2 (h1 ≡ h2)
          (λ here2 two2. sym here1 ∙ here2)
          (λ other2 was2. absurd (rules.not_both c from h2 y2 rested was2 (sym same ∙ sym (ap (λ (z : Carry). z.carrier) two1) ∙ carrier))))
          (λ other1 was1. same_or_old h2 y2 e2 (h1 ≡ h2)
          (λ here2 two2. absurd (rules.not_both c from h1 y1 rested was1 (same ∙ sym (ap (λ (z : Carry). z.carrier) two2) ∙ carrier)))
          (λ other2 was2. rules.one_hoist h1 h2 y1 y2 was1 was2 same));
      one_rest = λ d i j a b. rules.one_rest d i j (resting d i a).1 (resting d j b).1;
      not_both = λ d i h' y a e same.
          let r = resting d i a in
          same_or_old h' y e ⊥
          (λ here two.
          let one : c ≡ d = sym carrier ∙ ap (λ (z : Carry). z.carrier) two ∙ same in
          r.0 (rules.one_rest d from i (subst (λ (q : ℕ). RestsIn f q from) one rested) r.1))
          (λ other was. rules.not_both d i h' y r.1 was same);
    }
