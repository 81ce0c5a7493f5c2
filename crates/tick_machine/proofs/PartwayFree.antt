-- Points 5 to 7 keep the frame rules for any order.
use Rattle.std.proofs.Common.{◌≡◌, ℕ, ◌+◌, ◌<◌, ◌⊎◌, inl, inr, Option, Some, None, ⊎_elim, sym, ap, subst, ◌∙◌, arith}
use Rattle.std.proofs.lemmas.Bool.{cases_eq}
use Rattle.tick_machine.specs.declared.frame.Carry.{Carry}
use Rattle.tick_machine.specs.declared.frame.Hold.{Hold}
use Rattle.tick_machine.specs.declared.frame.Rest.{Rest}
use Rattle.tick_machine.specs.declared.frame.Rest.TheVariants.{Lowering, Resting, Lifting}
use Rattle.tick_machine.specs.Layout.{Layout, IsLayout}
use Rattle.tick_machine.specs.Scene.{Scene, with, hold_of}
use Rattle.tick_machine.specs.Points.{length_of}
use Rattle.tick_machine.specs.Rules.{RestsIn}
use Rattle.tick_machine.proofs.Writes.{with_same, with_other}
use Rattle.tick_machine.proofs.Partway.{IsLifting, HoldPart, RestPart, Parts}

-- what is still to be lifted out by others stands as before
rest_freed : (l : Layout) (h i c k : ℕ) (f : Scene) (x : Carry) (r : Rest) → f.carry h ≡ Some x → (x.from ≡ i → ⊥)
    → RestPart l h 0 f.carry i c k r → RestPart l (h + 1) 0 f.carry i c k r
rest_freed l h i c k f x Lowering has other g = g
rest_freed l h i c k f x (Resting age) has other g = tt
rest_freed l h i c k f x Lifting has other g = record {
  h = g.h;
  y = g.y;
  is = g.is;
  carrier = g.carrier;
  step = g.step;
  tank = g.tank;
  on = ⊎_elim
      (λ same. absurd (other (let two : x ≡ g.y = let a = ap f.carry same in let b = g.is in cc in ap (λ (z : Carry). z.from) two ∙ g.tank)))
      (λ apart. let o = g.on in omega arith)
      (cases_eq h g.h);
}

-- hoist h has lifted its carrier out
pub frees_keep : (l : Layout) (set h : ℕ) (f : Scene) (x : Carry) → Parts l set h 0 f → f.carry h ≡ Some x
    → x.elapsed ≡ l.lift x.step → Parts l set (h + 1) 0 (record f { hold = with f.hold x.from None })
frees_keep l set h f x parts has now =
    let own = parts.carries h x has in
    let was : f.hold x.from ≡ Some (hold_of x.carrier x.step Lifting) = own.lifting (omega arith) in
    let after : Scene = record f { hold = with f.hold x.from None } in
    let away : (i : ℕ) (y : Hold) → with f.hold x.from None i ≡ Some y → (x.from ≡ i → ⊥) × (f.hold i ≡ Some y) =
    λ i y e. ⊎_elim
    (λ here. absurd (let a = with_same f.hold x.from None i here in let b = e in cc))
    (λ other. (other, sym (with_other f.hold x.from None i other) ∙ e))
    (cases_eq x.from i) in
    let keep : (i c k : ℕ) (w : Rest) → (x.from ≡ i → ⊥) → f.hold i ≡ Some (hold_of c k w) → with f.hold x.from None i ≡ Some (hold_of c k w) =
    λ i c k w other e. with_other f.hold x.from None i other ∙ e in
    let resting : (c i : ℕ) → RestsIn after c i → RestsIn f c i =
    λ c i (k, age, e). (k, age, (away i (hold_of c k (Resting age)) e).1) in
    record {
      carries = λ h' y e.
          let r = parts.carries h' y e in
          record {
            there = r.there;
            at = r.at;
            step = r.step;
            from = r.from;
            to = r.to;
            known = r.known;
            going = r.going;
            lifting = λ on.
                let b = r.lifting (omega (arith, on)) in
                keep y.from y.carrier y.step Lifting (λ here.
                let two : hold_of x.carrier x.step Lifting ≡ hold_of y.carrier y.step Lifting = let a = ap f.hold here in cc in
                let same : h ≡ h' = parts.one_hoist h h' x y has e (ap (λ (w : Hold). w.carrier) two) in
                let one : x ≡ y = let a = ap f.carry same in cc in
                let past : IsLifting l (h + 1) h' x = subst (λ (z : Carry). IsLifting l (h + 1) h' z) (sym one) on in
                absurd (omega (arith, past))) b;
            lowering = λ on.
                let b = r.lowering on in
                keep y.to y.carrier (y.step + 1) Lowering (λ here.
                let two : hold_of x.carrier x.step Lifting ≡ hold_of y.carrier (y.step + 1) Lowering = let a = ap f.hold here in cc in
                let apart : Lifting ≡ Lowering = ap (λ (w : Hold). w.rest) two in
                absurd (let q = apart in cc)) b;
          };
      holds = λ i y e.
          let at = away i y e in
          let r = parts.holds i y at.1 in
          record { serves = r.serves; known = r.known; rest = rest_freed l h i y.carrier y.stage f x y.rest has at.0 r.rest };
      one_hoist = parts.one_hoist;
      one_rest = λ c i j a b. parts.one_rest c i j (resting c i a) (resting c j b);
      not_both = λ c i h' y a. parts.not_both c i h' y (resting c i a);
    }

rest_idle : (l : Layout) (h i c k : ℕ) (f : Scene) (r : Rest)
    → ((y : Carry) → f.carry h ≡ Some y → y.elapsed ≡ l.lift y.step → ⊥) → RestPart l h 0 f.carry i c k r
    → RestPart l (h + 1) 0 f.carry i c k r
rest_idle l h i c k f Lowering none g = g
rest_idle l h i c k f (Resting age) none g = tt
rest_idle l h i c k f Lifting none g = record {
  h = g.h;
  y = g.y;
  is = g.is;
  carrier = g.carrier;
  step = g.step;
  tank = g.tank;
  on = ⊎_elim
      (λ same. let apart : g.y.elapsed ≡ l.lift g.y.step → ⊥ = none g.y (ap f.carry same ∙ g.is) in let o = g.on in omega arith)
      (λ other. let o = g.on in omega arith)
      (cases_eq h g.h);
}

-- hoist h lifts nothing out
pub idle_frees : (l : Layout) (set h : ℕ) (f : Scene) → Parts l set h 0 f
    → ((y : Carry) → f.carry h ≡ Some y → y.elapsed ≡ l.lift y.step → ⊥) → Parts l set (h + 1) 0 f
idle_frees l set h f parts none = record {
  carries = λ h' y e.
      let r = parts.carries h' y e in
      record {
        there = r.there;
        at = r.at;
        step = r.step;
        from = r.from;
        to = r.to;
        known = r.known;
        going = r.going;
        lifting = λ on. r.lifting (omega (arith, on));
        lowering = r.lowering;
      };
  holds = λ i y e. let r = parts.holds i y e in record { serves = r.serves; known = r.known; rest = rest_idle l h i y.carrier y.stage f y.rest none r.rest };
  one_hoist = parts.one_hoist;
  one_rest = parts.one_rest;
  not_both = parts.not_both;
}

-- hoist h ends no carry
pub idle_sets : (l : Layout) (h : ℕ) (f : Scene) → Parts l h 0 0 f
    → ((y : Carry) → f.carry h ≡ Some y → y.elapsed ≡ length_of l y → ⊥) → Parts l (h + 1) 0 0 f
idle_sets l h f parts none = record {
  carries = λ h' y e.
      let r = parts.carries h' y e in
      record {
        there = r.there;
        at = r.at;
        step = r.step;
        from = r.from;
        to = r.to;
        known = r.known;
        going = ⊎_elim
            (λ same. let apart : y.elapsed ≡ length_of l y → ⊥ = none y (ap f.carry same ∙ e) in omega (arith, r.going))
            (λ other. omega (arith, r.going))
            (cases_eq h h');
        lifting = r.lifting;
        lowering = r.lowering;
      };
  holds = λ i y e. let r = parts.holds i y e in record { serves = r.serves; known = r.known; rest = r.rest };
  one_hoist = parts.one_hoist;
  one_rest = parts.one_rest;
  not_both = parts.not_both;
}

-- who rests in tank i is taken off
pub clears_keep : (l : Layout) (set free low i c k age : ℕ) (f : Scene) → Parts l set free low f
    → f.hold i ≡ Some (hold_of c k (Resting age)) → Parts l set free low (record f { hold = with f.hold i None })
clears_keep l set free low i c k age f parts was =
    let after : Scene = record f { hold = with f.hold i None } in
    let back : (j : ℕ) (y : Hold) → with f.hold i None j ≡ Some y → f.hold j ≡ Some y =
    λ j y e. ⊎_elim
    (λ here. absurd (let a = with_same f.hold i None j here in let b = e in cc))
    (λ other. sym (with_other f.hold i None j other) ∙ e)
    (cases_eq i j) in
    let keep : (j d m : ℕ) (w : Rest) → (Resting age ≡ w → ⊥) → f.hold j ≡ Some (hold_of d m w) → with f.hold i None j ≡ Some (hold_of d m w) =
    λ j d m w apart e. with_other f.hold i None j
    (λ here.
    let two : hold_of c k (Resting age) ≡ hold_of d m w = let a = ap f.hold here in cc in
    apart (ap (λ (z : Hold). z.rest) two)) ∙ e in
    let resting : (d j : ℕ) → RestsIn after d j → RestsIn f d j = λ d j (m, old, e). (m, old, back j (hold_of d m (Resting old)) e) in
    record {
      carries = λ h y e.
          let r = parts.carries h y e in
          record {
            there = r.there;
            at = r.at;
            step = r.step;
            from = r.from;
            to = r.to;
            known = r.known;
            going = r.going;
            lifting = λ on. keep y.from y.carrier y.step Lifting (λ q. let g = q in cc) (r.lifting on);
            lowering = λ on. keep y.to y.carrier (y.step + 1) Lowering (λ q. let g = q in cc) (r.lowering on);
          };
      holds = λ j y e. let r = parts.holds j y (back j y e) in record { serves = r.serves; known = r.known; rest = r.rest };
      one_hoist = parts.one_hoist;
      one_rest = λ d j j' a b. parts.one_rest d j j' (resting d j a) (resting d j' b);
      not_both = λ d j h y a. parts.not_both d j h y (resting d j a);
    }

-- the next carrier is put on
pub puts_keep : (l : Layout) (set free low : ℕ) (f : Scene) → IsLayout l → Parts l set free low f
    → f.hold l.load_tank ≡ None
    → Parts l set free low (record f { hold = with f.hold l.load_tank (Some (hold_of f.next 0 (Resting 0))); next = f.next + 1 })
puts_keep l set free low f layout parts empty =
    let v : Option Hold = Some (hold_of f.next 0 (Resting 0)) in
    let after : Scene = record f { hold = with f.hold l.load_tank v; next = f.next + 1 } in
    let keep : (i : ℕ) (y : Hold) → f.hold i ≡ Some y → with f.hold l.load_tank v i ≡ Some y =
    λ i y e. with_other f.hold l.load_tank v i (λ here. let a = ap f.hold here in cc) ∙ e in
    let resting : (c i : ℕ) → RestsIn after c i → ((f.next ≡ c) × (l.load_tank ≡ i)) ⊎ RestsIn f c i =
    λ c i (k, age, e). ⊎_elim
    (λ here.
    let two : hold_of f.next 0 (Resting 0) ≡ hold_of c k (Resting age) = let a = with_same f.hold l.load_tank v i here in let b = e in cc in
    inl (ap (λ (w : Hold). w.carrier) two, here))
    (λ other. inr (k, age, sym (with_other f.hold l.load_tank v i other) ∙ e))
    (cases_eq l.load_tank i) in
    let known : (c i : ℕ) → RestsIn f c i → c < f.next = λ c i (k, age, e). (parts.holds i (hold_of c k (Resting age)) e).known in
    record {
      carries = λ h y e.
          let r = parts.carries h y e in
          record {
            there = r.there;
            at = r.at;
            step = r.step;
            from = r.from;
            to = r.to;
            known = omega (arith, r.known);
            going = r.going;
            lifting = λ on. keep y.from (hold_of y.carrier y.step Lifting) (r.lifting on);
            lowering = λ on. keep y.to (hold_of y.carrier (y.step + 1) Lowering) (r.lowering on);
          };
      holds = λ i y e.
          ⊎_elim
          (λ here.
          let two : hold_of f.next 0 (Resting 0) ≡ y = let a = with_same f.hold l.load_tank v i here in cc in
          subst (λ (z : Hold). HoldPart l free low after i z) two (record {
            serves = ap (λ (j : ℕ). l.serves j 0)
                (sym here) ∙ layout.load;
            known = omega arith;
            rest = tt;
          }))
          (λ other.
          let r = parts.holds i y (sym (with_other f.hold l.load_tank v i other) ∙ e) in
          record { serves = r.serves; known = omega (arith, r.known); rest = r.rest })
          (cases_eq l.load_tank i);
      one_hoist = parts.one_hoist;
      one_rest = λ c i j a b.
          ⊎_elim
          (λ new. ⊎_elim
          (λ too. sym new.1 ∙ too.1)
          (λ old. let lt = known c j old in let e = new.0 in absurd (omega arith))
          (resting c j b))
          (λ old. ⊎_elim
          (λ new. let lt = known c i old in let e = new.0 in absurd (omega arith))
          (λ too. parts.one_rest c i j old too)
          (resting c j b))
          (resting c i a);
      not_both = λ c i h y a e same.
          ⊎_elim
          (λ new. let lt = (parts.carries h y e).known in let q = new.0 in absurd (omega arith))
          (λ old. parts.not_both c i h y old e same)
          (resting c i a);
    }
