-- A frame that keeps the frame rules after all events of a tick keeps them.
use Rattle.std.proofs.Common.{◌≡◌, ℕ, ◌+◌, ◌≤◌, ◌<◌, Some, IfSome, sym, refl, ap, subst, ◌∙◌, arith}
use Rattle.tick_machine.specs.declared.frame.Carry.{Carry}
use Rattle.tick_machine.specs.declared.frame.Rest.{Rest}
use Rattle.tick_machine.specs.declared.frame.Rest.TheVariants.{Lowering, Resting, Lifting}
use Rattle.tick_machine.specs.Layout.{Layout}
use Rattle.tick_machine.specs.Scene.{Scene, hold_of}
use Rattle.tick_machine.specs.Points.{length_of}
use Rattle.tick_machine.specs.Rules.{AreApart, RestRule, KeepsRules}
use Rattle.tick_machine.proofs.Partway.{IsLifting, IsLowering, RestPart, Parts}

still_lifting : (l : Layout) (f : Scene) (h : ℕ) (y : Carry) → Parts l l.hoists l.hoists l.hoists f → f.carry h ≡ Some y
    → f.hold y.from ≡ Some (hold_of y.carrier y.step Lifting) → y.elapsed < l.lift y.step
still_lifting l f h y parts has held =
    let g = (parts.holds y.from (hold_of y.carrier y.step Lifting) held).rest in
    let same : h ≡ g.h = parts.one_hoist h g.h y g.y has g.is (sym g.carrier) in
    let one : g.y ≡ y = let a = ap f.carry same in let b = g.is in cc in
    let on : IsLifting l l.hoists g.h y = subst (λ (z : Carry). IsLifting l l.hoists g.h z) one g.on in
    omega (arith, on, (parts.carries h y has).there)

still_lowering : (l : Layout) (f : Scene) (h : ℕ) (y : Carry) → Parts l l.hoists l.hoists l.hoists f
    → f.carry h ≡ Some y → f.hold y.to ≡ Some (hold_of y.carrier (y.step + 1) Lowering)
    → length_of l y ≤ y.elapsed + l.lower (y.step + 1)
still_lowering l f h y parts has held =
    let g = (parts.holds y.to (hold_of y.carrier (y.step + 1) Lowering) held).rest in
    let same : h ≡ g.h = parts.one_hoist h g.h y g.y has g.is (sym g.carrier) in
    let one : g.y ≡ y = let a = ap f.carry same in let b = g.is in cc in
    let on : IsLowering l l.hoists g.h y = subst (λ (z : Carry). IsLowering l l.hoists g.h z) one g.on in
    omega (arith, on, (parts.carries h y has).there)

rest_ends : (l : Layout) (f : Scene) (i c k : ℕ) (r : Rest)
    → ((age : ℕ) → r ≡ Resting age → IfSome (l.greatest k) (λ m. age ≤ m))
    → RestPart l l.hoists l.hoists f.carry i c k r → RestRule l f i c k r
rest_ends l f i c k Lowering young g = (g.h, g.y, record { is = g.is; carrier = g.carrier; step = g.step; tank = g.tank })
rest_ends l f i c k (Resting age) young g = young age refl
rest_ends l f i c k Lifting young g = (g.h, g.y, record { is = g.is; carrier = g.carrier; step = g.step; tank = g.tank })

pub ends_keep : (l : Layout) (f : Scene) → Parts l l.hoists l.hoists l.hoists f → AreApart l f.at
    → ((i c k age : ℕ) → f.hold i ≡ Some (hold_of c k (Resting age)) → IfSome (l.greatest k) (λ m. age ≤ m))
    → KeepsRules l f
ends_keep l f parts apart young = record {
  apart = apart;
  carries = λ h y e.
      let r = parts.carries h y e in
      record {
        there = r.there;
        step = r.step;
        from = r.from;
        to = r.to;
        going = omega (arith, r.going, r.there);
        at = r.at;
        lifting = (λ held. still_lifting l f h y parts e held, λ lt. r.lifting (omega (arith, r.there)));
        lowering = (λ held. still_lowering l f h y parts e held, λ le. r.lowering (omega (arith, r.there)));
        known = r.known;
      };
  holds = λ i x e.
      let r = parts.holds i x e in
      record {
        serves = r.serves;
        known = r.known;
        rest = rest_ends l f i x.carrier x.stage x.rest (λ age is. young i x.carrier x.stage age
            (e ∙ ap (λ (w : Rest). Some (hold_of x.carrier x.stage w)) is)) r.rest;
      };
  one_hoist = parts.one_hoist;
  one_rest = parts.one_rest;
  not_both = parts.not_both;
}
