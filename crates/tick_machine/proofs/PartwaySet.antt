-- Point 4 keeps the frame rules for any order.
use Rattle.std.proofs.Common.{◌≡◌, ℕ, ◌+◌, ◌<◌, Option, Some, None, ⊎_elim, sym, ap, subst, ◌∙◌, arith}
use Rattle.std.proofs.lemmas.Bool.{cases_eq}
use Rattle.tick_machine.specs.declared.frame.Carry.{Carry}
use Rattle.tick_machine.specs.declared.frame.Hold.{Hold}
use Rattle.tick_machine.specs.declared.frame.Rest.{Rest}
use Rattle.tick_machine.specs.declared.frame.Rest.TheVariants.{Lowering, Resting, Lifting}
use Rattle.tick_machine.specs.Layout.{Layout}
use Rattle.tick_machine.specs.Scene.{Scene, with, hold_of}
use Rattle.tick_machine.specs.Points.{length_of}
use Rattle.tick_machine.specs.Rules.{RestsIn}
use Rattle.tick_machine.proofs.Writes.{with_same, with_other}
use Rattle.tick_machine.proofs.Partway.{IsLifting, HoldPart, RestPart, Parts}

-- what the other carries hold up is still there
rest_kept : (l : Layout) (h i c k : ℕ) (f : Scene) (x : Carry) (r : Rest) → f.carry h ≡ Some x → (x.to ≡ i → ⊥)
    → l.lift x.step < x.elapsed → RestPart l 0 0 f.carry i c k r → RestPart l 0 0 (with f.carry h None) i c k r
rest_kept l h i c k f x Lowering has other past g = record {
  h = g.h;
  y = g.y;
  carrier = g.carrier;
  step = g.step;
  tank = g.tank;
  on = g.on;
  is = with_other f.carry h None g.h (λ same. let two : x ≡ g.y = let a = ap f.carry same in let b = g.is in cc in other
      (ap (λ (z : Carry). z.to) two ∙ g.tank)) ∙ g.is;
}
rest_kept l h i c k f x (Resting age) has other past g = tt
rest_kept l h i c k f x Lifting has other past g = record {
  h = g.h;
  y = g.y;
  carrier = g.carrier;
  step = g.step;
  tank = g.tank;
  on = g.on;
  is = with_other f.carry h None g.h (λ same.
      let two : x ≡ g.y = let a = ap f.carry same in let b = g.is in cc in
      let on : IsLifting l 0 g.h x = subst (λ (z : Carry). IsLifting l 0 g.h z) (sym two) g.on in
      omega (arith, on)) ∙ g.is;
}

-- hoist h ends its carry
pub sets_keep : (l : Layout) (h : ℕ) (f : Scene) (x : Carry) → Parts l h 0 0 f → f.carry h ≡ Some x
    → x.elapsed ≡ length_of l x → 0 < l.lower (x.step + 1) → l.lift x.step < length_of l x
    → Parts l (h + 1) 0 0 (record f { carry = with f.carry h None; hold = with f.hold x.to (Some (hold_of x.carrier (x.step + 1) (Resting 0))) })
sets_keep l h f x rules has ends low long =
    let v : Option Hold = Some (hold_of x.carrier (x.step + 1) (Resting 0)) in
    let own = rules.carries h x has in
    let was : f.hold x.to ≡ Some (hold_of x.carrier (x.step + 1) Lowering) = own.lowering (omega arith) in
    let away : (h' : ℕ) (y : Carry) → with f.carry h None h' ≡ Some y → (h ≡ h' → ⊥) × (f.carry h' ≡ Some y) =
    λ h' y e. ⊎_elim
    (λ same. absurd (let a = with_same f.carry h None h' same in let b = e in cc))
    (λ other. (other, sym (with_other f.carry h None h' other) ∙ e))
    (cases_eq h h') in
    let rests : Scene = record f { carry = with f.carry h None; hold = with f.hold x.to v } in
    let resting : (c i : ℕ) → (x.to ≡ i → ⊥) → RestsIn rests c i → RestsIn f c i =
    λ c i other (k, age, e). (k, age, sym (with_other f.hold x.to v i other) ∙ e) in
    let here_is : (c i : ℕ) → x.to ≡ i → RestsIn rests c i → x.carrier ≡ c =
    λ c i here (k, age, e).
    let two : hold_of x.carrier (x.step + 1) (Resting 0) ≡ hold_of c k (Resting age) = let a = with_same f.hold x.to v i here in let b = e in cc in
    ap (λ (w : Hold). w.carrier) two in
    record {
      carries = λ h' y e.
          let at = away h' y e in
          let r = rules.carries h' y at.1 in
          let other : h ≡ h' → ⊥ = at.0 in
          let keep : (i c k : ℕ) (w : Rest) → (x.to ≡ i → ⊥) → f.hold i ≡ Some (hold_of c k w) → with f.hold x.to v i ≡ Some (hold_of c k w) =
          λ i c k w apart b. with_other f.hold x.to v i apart ∙ b in
          record {
            there = r.there;
            at = r.at;
            step = r.step;
            from = r.from;
            to = r.to;
            known = r.known;
            going = omega (arith, r.going);
            lifting = λ on.
                let b = r.lifting on in
                keep y.from y.carrier y.step Lifting (λ here.
                let two : hold_of x.carrier (x.step + 1) Lowering ≡ hold_of y.carrier y.step Lifting = let a = ap f.hold here in cc in
                let apart : Lowering ≡ Lifting = ap (λ (w : Hold). w.rest) two in
                let g : Unit {0} = tt in absurd (let q = apart in cc)) b;
            lowering = λ on.
                let b = r.lowering on in
                keep y.to y.carrier (y.step + 1) Lowering (λ here.
                let two : hold_of x.carrier (x.step + 1) Lowering ≡ hold_of y.carrier (y.step + 1) Lowering = let a = ap f.hold here in cc in
                at.0 (rules.one_hoist h h' x y has at.1 (ap (λ (w : Hold). w.carrier) two))) b;
          };
      holds = λ i y e.
          ⊎_elim
          (λ here.
          let two : hold_of x.carrier (x.step + 1) (Resting 0) ≡ y = let a = with_same f.hold x.to v i here in cc in
          subst (λ (z : Hold). HoldPart l 0 0 rests i z) two (record {
            serves = ap (λ (j : ℕ). l.serves j (x.step + 1))
                (sym here) ∙ own.to;
            known = own.known;
            rest = tt;
          }))
          (λ other.
          let r = rules.holds i y (sym (with_other f.hold x.to v i other) ∙ e) in
          record { serves = r.serves; known = r.known; rest = rest_kept l h i y.carrier y.stage f x y.rest has other (omega arith) r.rest })
          (cases_eq x.to i);
      one_hoist = λ h1 h2 y1 y2 e1 e2 same. rules.one_hoist h1 h2 y1 y2 (away h1 y1 e1).1 (away h2 y2 e2).1 same;
      one_rest = λ c i j a b.
          ⊎_elim
          (λ here. ⊎_elim
          (λ there. sym here ∙ there)
          (λ other. absurd (rules.not_both c j h x (resting c j other b) has (here_is c i here a)))
          (cases_eq x.to j))
          (λ other. ⊎_elim
          (λ there. absurd (rules.not_both c i h x (resting c i other a) has (here_is c j there b)))
          (λ apart. rules.one_rest c i j (resting c i other a) (resting c j apart b))
          (cases_eq x.to j))
          (cases_eq x.to i);
      not_both = λ c i h' y a e same.
          let at = away h' y e in
          ⊎_elim
          (λ here. at.0 (rules.one_hoist h h' x y has at.1 (here_is c i here a ∙ sym same)))
          (λ other. rules.not_both c i h' y (resting c i other a) at.1 same)
          (cases_eq x.to i);
    }
