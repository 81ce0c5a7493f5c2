-- Point 8 keeps the frame rules for any order.
use Rattle.std.proofs.Common.{◌≡◌, ℕ, ◌+◌, Option, Some, None, ⊎_elim, sym, refl, ap, subst, ◌∙◌, arith}
use Rattle.std.specs.Prelude.{true}
use Rattle.std.proofs.lemmas.Bool.{cases_eq, eqb-true}
use Rattle.tick_machine.specs.declared.frame.Carry.{Carry}
use Rattle.tick_machine.specs.declared.frame.Hold.{Hold}
use Rattle.tick_machine.specs.declared.frame.Rest.{Rest}
use Rattle.tick_machine.specs.declared.frame.Rest.TheVariants.{Lowering, Resting, Lifting}
use Rattle.tick_machine.specs.Layout.{Layout}
use Rattle.tick_machine.specs.Scene.{Scene, with, hold_of}
use Rattle.tick_machine.specs.Points.{length_of, lowers_now}
use Rattle.tick_machine.specs.Rules.{RestsIn}
use Rattle.tick_machine.proofs.Writes.{with_same, with_other}
use Rattle.tick_machine.proofs.Partway.{HoldPart, RestPart, Parts}

rest_more : (l : Layout) (free n : ℕ) (carry : ℕ → Option Carry) (i c k : ℕ) (r : Rest)
    → RestPart l free n carry i c k r → RestPart l free (n + 1) carry i c k r
rest_more l free n carry i c k Lowering g = record {
  h = g.h;
  y = g.y;
  is = g.is;
  carrier = g.carrier;
  step = g.step;
  tank = g.tank;
  on = (let a = g.on in omega arith);
}
rest_more l free n carry i c k (Resting age) g = tt
rest_more l free n carry i c k Lifting g = g

-- hoist h lowers into a free tank
pub lowers_keep : (l : Layout) (set free h : ℕ) (f : Scene) (x : Carry) → Parts l set free h f → f.carry h ≡ Some x
    → lowers_now l x ≡ true → f.hold x.to ≡ None
    → Parts l set free (h + 1) (record f { hold = with f.hold x.to (Some (hold_of x.carrier (x.step + 1) Lowering)) })
lowers_keep l set free h f x rules has now empty =
    let v : Option Hold = Some (hold_of x.carrier (x.step + 1) Lowering) in
    let begins : x.elapsed + l.lower (x.step + 1) ≡ length_of l x = eqb-true (x.elapsed + l.lower (x.step + 1)) (length_of l x) now in
    let own = rules.carries h x has in
    let keep : (i : ℕ) (y : Hold) → f.hold i ≡ Some y → with f.hold x.to v i ≡ Some y =
    λ i y e. with_other f.hold x.to v i (λ here. let a = ap f.hold here in cc) ∙ e in
    let resting : (c i : ℕ) → RestsIn (record f { hold = with f.hold x.to v }) c i → RestsIn f c i =
    λ c i (k, age, e). ⊎_elim
    (λ here.
    let two : hold_of x.carrier (x.step + 1) Lowering ≡ hold_of c k (Resting age) = let a = with_same f.hold x.to v i here in let b = e in cc in
    let apart : Lowering ≡ Resting age = ap (λ (w : Hold). w.rest) two in
    absurd (let g = apart in cc))
    (λ other. (k, age, sym (with_other f.hold x.to v i other) ∙ e))
    (cases_eq x.to i) in
    record {
      carries = λ h' y e.
          let r = rules.carries h' y e in
          record {
            there = r.there;
            at = r.at;
            step = r.step;
            from = r.from;
            to = r.to;
            known = r.known;
            going = r.going;
            lifting = λ on. keep y.from (hold_of y.carrier y.step Lifting) (r.lifting on);
            lowering = λ on. ⊎_elim
                (λ same.
                let two : x ≡ y = let a = ap f.carry same in cc in
                with_same f.hold x.to v y.to (ap (λ (z : Carry). z.to) two) ∙ ap (λ (z : Carry). Some (hold_of z.carrier (z.step + 1) Lowering)) two)
                (λ other. keep y.to (hold_of y.carrier (y.step + 1) Lowering) (r.lowering (omega (arith, on))))
                (cases_eq h h');
          };
      holds = λ i y e.
          ⊎_elim
          (λ here.
          let two : hold_of x.carrier (x.step + 1) Lowering ≡ y = let a = with_same f.hold x.to v i here in cc in
          subst (λ (z : Hold). HoldPart l free (h + 1) (record f { hold = with f.hold x.to v }) i z) two (record {
            serves = ap (λ (j : ℕ). l.serves j (x.step + 1)) (sym here) ∙ own.to;
            known = own.known;
            rest = record { h = h; y = x; is = has; carrier = refl; step = refl; tank = here; on = omega arith };
          }))
          (λ other.
          let r = rules.holds i y (sym (with_other f.hold x.to v i other) ∙ e) in
          record { serves = r.serves; known = r.known; rest = rest_more l free h f.carry i y.carrier y.stage y.rest r.rest })
          (cases_eq x.to i);
      one_hoist = rules.one_hoist;
      one_rest = λ c i i' a b. rules.one_rest c i i' (resting c i a) (resting c i' b);
      not_both = λ c i h' y a. rules.not_both c i h' y (resting c i a);
    }

-- no hoist but h begins to lower by h's turn, so a turn without a lowering keeps them too
pub idle_keeps : (l : Layout) (set free h : ℕ) (f : Scene) → Parts l set free h f
    → ((y : Carry) → f.carry h ≡ Some y → y.elapsed + l.lower (y.step + 1) ≡ length_of l y → ⊥)
    → Parts l set free (h + 1) f
idle_keeps l set free h f rules none = record {
  carries = λ h' y e.
      let r = rules.carries h' y e in
      record {
        there = r.there;
        at = r.at;
        step = r.step;
        from = r.from;
        to = r.to;
        known = r.known;
        going = r.going;
        lifting = r.lifting;
        lowering = λ on. r.lowering (⊎_elim
            (λ same. let other : y.elapsed + l.lower (y.step + 1) ≡ length_of l y → ⊥ = none y (ap f.carry same ∙ e) in omega (arith, on))
            (λ other. omega (arith, on)) (cases_eq h h'));
      };
  holds = λ i y e. let r = rules.holds i y e in record {
    serves = r.serves;
    known = r.known;
    rest = rest_more l free h f.carry i y.carrier y.stage y.rest r.rest;
  };
  one_hoist = rules.one_hoist;
  one_rest = rules.one_rest;
  not_both = rules.not_both;
}
