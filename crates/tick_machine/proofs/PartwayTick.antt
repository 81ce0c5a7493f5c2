-- A frame that keeps the frame rules keeps them part way once a tick has passed, for any order.
use Rattle.std.proofs.Common.{◌≡◌, ℕ, ◌+◌, ◌≤◌, ◌<◌, Option, Some, None, sym, refl, ap, subst, ◌∙◌, arith}
use Rattle.std.specs.Option.{option_map}
use Rattle.tick_machine.specs.declared.frame.Carry.{Carry}
use Rattle.tick_machine.specs.declared.frame.Hold.{Hold}
use Rattle.tick_machine.specs.declared.frame.Rest.{Rest}
use Rattle.tick_machine.specs.declared.frame.Rest.TheVariants.{Lowering, Resting, Lifting}
use Rattle.tick_machine.specs.Layout.{Layout}
use Rattle.tick_machine.specs.Scene.{Scene, Command, hold_of}
use Rattle.tick_machine.specs.Points.{moved_to, grown, older, aged_hold, length_of}
use Rattle.tick_machine.specs.Step.{after_tick}
use Rattle.tick_machine.specs.Rules.{RestRule, RestsIn, KeepsRules}
use Rattle.tick_machine.proofs.Partway.{CarryPart, HoldPart, RestPart, Parts}

-- who is carried or held was so before
pub record GrownFrom (o : Option Carry) (y : Carry) : Type 0 where
  pub x : Carry
  pub was : o ≡ Some x
  pub is : grown x ≡ y

pub grown_from : (o : Option Carry) (y : Carry) → option_map grown o ≡ Some y → GrownFrom o y
grown_from None y e = absurd (let g = e in cc)
grown_from (Some x) y e = record { x = x; was = refl; is = let g = e in cc }

pub record AgedFrom (o : Option Hold) (y : Hold) : Type 0 where
  pub x : Hold
  pub was : o ≡ Some x
  pub is : aged_hold x ≡ y

pub aged_from : (o : Option Hold) (y : Hold) → option_map aged_hold o ≡ Some y → AgedFrom o y
aged_from None y e = absurd (let g = e in cc)
aged_from (Some x) y e = record { x = x; was = refl; is = let g = e in cc }

resting_from : (r : Rest) (age : ℕ) → older r ≡ Resting age → (a : ℕ) × (r ≡ Resting a)
resting_from Lowering age e = absurd (let g = e in cc)
resting_from (Resting a) age e = (a, refl)
resting_from Lifting age e = absurd (let g = e in cc)

-- a hold by its parts
pub hold_is : (x : Hold) (c k : ℕ) (r : Rest) → x.carrier ≡ c → x.stage ≡ k → x.rest ≡ r → x ≡ hold_of c k r
hold_is x c k r carrier stage rest = λ p. hold_of (carrier p) (stage p) (rest p)

pub rested_before : (l : Layout) (o : Command) (f : Scene) (c i : ℕ) → RestsIn (after_tick l o f) c i → RestsIn f c i
rested_before l o f c i (k, age, e) =
    let g = aged_from (f.hold i) (hold_of c k (Resting age)) e in
    let (a, resting) = resting_from g.x.rest age (ap (λ (w : Hold). w.rest) g.is) in
    (k, a, g.was ∙ ap (λ (w : Hold). Some w) (hold_is g.x c k (Resting a) (ap (λ (w : Hold). w.carrier) g.is) (ap (λ (w : Hold). w.stage) g.is) resting))

rest_passes : (l : Layout) (o : Command) (f : Scene) (i c k : ℕ) (r : Rest) → KeepsRules l f
    → f.hold i ≡ Some (hold_of c k r) → RestRule l f i c k r → RestPart l 0 0 (after_tick l o f).carry i c k (older r)
rest_passes l o f i c k Lowering rules held (h, y, by) =
    let r = rules.carries h y by.is in
    let here : f.hold y.to ≡ Some (hold_of y.carrier (y.step + 1) Lowering) =
    ap f.hold by.tank ∙ held ∙ ap (λ (n : ℕ). Some (hold_of n k Lowering)) (sym by.carrier)
    ∙ ap (λ (m : ℕ). Some (hold_of y.carrier m Lowering)) (sym by.step) in
    let lowers : length_of l y ≤ y.elapsed + l.lower (y.step + 1) = r.lowering.0 here in
    record { h = h; y = grown y; is = ap (option_map grown) by.is; carrier = by.carrier; step = by.step; tank = by.tank; on = omega arith }
rest_passes l o f i c k (Resting age) rules held rest = tt
rest_passes l o f i c k Lifting rules held (h, y, by) =
    let r = rules.carries h y by.is in
    let here : f.hold y.from ≡ Some (hold_of y.carrier y.step Lifting) =
    ap f.hold by.tank ∙ held ∙ ap (λ (n : ℕ). Some (hold_of n k Lifting)) (sym by.carrier) ∙ ap (λ (m : ℕ). Some (hold_of y.carrier m Lifting)) (sym by.step) in
    let lifts : y.elapsed < l.lift y.step = r.lifting.0 here in
    record { h = h; y = grown y; is = ap (option_map grown) by.is; carrier = by.carrier; step = by.step; tank = by.tank; on = omega arith }

pub passes_keep : (l : Layout) (o : Command) (f : Scene) → KeepsRules l f → Parts l 0 0 0 (after_tick l o f)
passes_keep l o f rules =
    let after : Scene = after_tick l o f in
    record {
      carries = λ h y e.
          let g = grown_from (f.carry h) y e in
          let x = g.x in
          let r = rules.carries h x g.was in
          let going : x.elapsed < length_of l x = r.going in
          let part : CarryPart l 0 0 0 after h (grown x) = record {
            there = r.there;
            at = ap (λ (c : Option Carry). moved_to l c (o.go h) (f.at h)) g.was;
            step = r.step;
            from = r.from;
            to = r.to;
            known = r.known;
            going = omega arith;
            lifting = λ on. ap (option_map aged_hold) (r.lifting.1 (omega (arith, on)));
            lowering = λ on. ap (option_map aged_hold) (r.lowering.1 (omega (arith, on)));
          } in
          subst (λ (z : Carry). CarryPart l 0 0 0 after h z) g.is part;
      holds = λ i y e.
          let g = aged_from (f.hold i) y e in
          let x = g.x in
          let r = rules.holds i x g.was in
          let part : HoldPart l 0 0 after i (aged_hold x) = record {
            serves = r.serves;
            known = r.known;
            rest = rest_passes l o f i x.carrier x.stage x.rest rules g.was r.rest;
          } in
          subst (λ (z : Hold). HoldPart l 0 0 after i z) g.is part;
      one_hoist = λ h h' y y' e e' same.
          let g = grown_from (f.carry h) y e in
          let g' = grown_from (f.carry h') y' e' in
          rules.one_hoist h h' g.x g'.x g.was g'.was (ap (λ (z : Carry). z.carrier) g.is ∙ same ∙ sym (ap (λ (z : Carry). z.carrier) g'.is));
      one_rest = λ c i j a b. rules.one_rest c i j (rested_before l o f c i a) (rested_before l o f c j b);
      not_both = λ c i h y a e same.
          let g = grown_from (f.carry h) y e in
          rules.not_both c i h g.x (rested_before l o f c i a) g.was (ap (λ (z : Carry). z.carrier) g.is ∙ same);
    }
