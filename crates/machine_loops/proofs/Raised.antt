-- What is true of frames and steps is true of them with the carriers of a later period.
use Rattle.std.proofs.Common.{◌≡◌, ℕ, zero, suc, ◌+◌, ◌≤◌, ◌<◌, Option, Some, None, inl, inr, ⊎_elim, sym, refl, ap, subst, ◌∙◌, arith}
use Rattle.std.specs.Prelude.{true}
use Rattle.std.specs.Option.{option_map}
use Rattle.tick_machine.specs.declared.frame.Carry.{Carry}
use Rattle.tick_machine.specs.declared.frame.Hold.{Hold}
use Rattle.tick_machine.specs.declared.frame.Rest.TheVariants.{Lowering, Resting, Lifting}
use Rattle.tick_machine.specs.Layout.{Layout, move_place}
use Rattle.tick_machine.specs.Scene.{Scene, hold_of}
use Rattle.tick_machine.specs.Points.{length_of, grown}
use Rattle.tick_machine.specs.Rules.{AreApart, KeepsRules}
use Rattle.tick_machine.proofs.Scenes.{scene_same}
use Rattle.tick_machine.proofs.PartwayTick.{hold_is}
use Rattle.machine_loops.specs.Loops.{raised_carry, raised_hold, raised}
use Rattle.machine_loops.proofs.StepBack.{Rests, Comes, some_same}
use Rattle.machine_loops.proofs.StepOn.{IsIn}
use Rattle.machine_loops.proofs.StepFacts.{BeginsFrom, Passes}

-- what a frame says of a carry
pub record Going (l : Layout) (f : Scene) (h : ℕ) (y : Carry) : Type 0 where
  pub there : h < l.hoists
  pub step : y.step < l.last
  pub from : l.serves y.from y.step ≡ true
  pub to : l.serves y.to (y.step + 1) ≡ true
  pub going : y.elapsed < length_of l y
  pub at : f.at h ≡ move_place l y.step y.from y.to y.elapsed
  pub lifting : y.elapsed < l.lift y.step → f.hold y.from ≡ Some (hold_of y.carrier y.step Lifting)
  pub lowering : length_of l y ≤ y.elapsed + l.lower (y.step + 1)
      → f.hold y.to ≡ Some (hold_of y.carrier (y.step + 1) Lowering)
  pub known : y.carrier < f.next

-- the frame rules that are needed of a frame with later carriers
pub record Sound (l : Layout) (f : Scene) : Type 0 where
  pub apart : AreApart l f.at
  pub carries : (h : ℕ) (y : Carry) → f.carry h ≡ Some y → Going l f h y
  pub known : (i c k age : ℕ) → Rests f i c k age → c < f.next
  pub there : (i : ℕ) (x : Hold) → f.hold i ≡ Some x → l.serves i x.stage ≡ true
  pub one_hoist : (h h' : ℕ) (y y' : Carry) → f.carry h ≡ Some y → f.carry h' ≡ Some y' → y.carrier ≡ y'.carrier
      → h ≡ h'
  pub not_both : (i c k age h : ℕ) (y : Carry) → Rests f i c k age → f.carry h ≡ Some y → y.carrier ≡ c → ⊥

pub sound : (l : Layout) (f : Scene) → KeepsRules l f → Sound l f
sound l f rules = record {
  apart = rules.apart;
  carries = λ h y e.
      let r = rules.carries h y e in
      record {
        there = r.there;
        step = r.step;
        from = r.from;
        to = r.to;
        going = r.going;
        at = r.at;
        lifting = r.lifting.1;
        lowering = r.lowering.1;
        known = r.known;
      };
  known = λ i c k age e. (rules.holds i (hold_of c k (Resting age)) e).known;
  there = λ i x e. (rules.holds i x e).serves;
  one_hoist = rules.one_hoist;
  not_both = λ i c k age h y rests. rules.not_both c i h y (k, age, rests);
}

-- what is carried or held by a later carrier
pub record LowerCarry (d : ℕ) (o : Option Carry) (y : Carry) : Type 0 where
  pub x : Carry
  pub was : o ≡ Some x
  pub is : raised_carry d x ≡ y

pub lower_carry : (d : ℕ) (o : Option Carry) (y : Carry) → option_map (raised_carry d) o ≡ Some y → LowerCarry d o y
lower_carry d None y e = absurd (let g = e in cc)
lower_carry d (Some x) y e = record { x = x; was = refl; is = some_same (raised_carry d x) y e }

pub record LowerHold (d : ℕ) (o : Option Hold) (y : Hold) : Type 0 where
  pub x : Hold
  pub was : o ≡ Some x
  pub is : raised_hold d x ≡ y

pub lower_hold : (d : ℕ) (o : Option Hold) (y : Hold) → option_map (raised_hold d) o ≡ Some y → LowerHold d o y
lower_hold d None y e = absurd (let g = e in cc)
lower_hold d (Some x) y e = record { x = x; was = refl; is = some_same (raised_hold d x) y e }

pub record LowerRest (d : ℕ) (f : Scene) (i c k age : ℕ) : Type 0 where
  pub c' : ℕ
  pub carrier : c' + d ≡ c
  pub rests : Rests f i c' k age

pub lower_rest : (d : ℕ) (f : Scene) (i c k age : ℕ) → Rests (raised d f) i c k age → LowerRest d f i c k age
lower_rest d f i c k age e =
    let low = lower_hold d (f.hold i) (hold_of c k (Resting age)) e in
    record {
      c' = low.x.carrier;
      carrier = ap (λ (w : Hold). w.carrier) low.is;
      rests = low.was ∙ ap (λ (w : Hold). Some w) (hold_is low.x low.x.carrier k
          (Resting age) refl (ap (λ (w : Hold). w.stage) low.is) (ap (λ (w : Hold). w.rest) low.is));
    }

pub raised_sound : (l : Layout) (d : ℕ) (f : Scene) → Sound l f → Sound l (raised d f)
raised_sound l d f s = record {
  apart = s.apart;
  carries = λ h y e.
      let low = lower_carry d (f.carry h) y e in
      let r = s.carries h low.x low.was in
      let known = r.known in
      let going : Going l (raised d f) h (raised_carry d low.x) = record {
        there = r.there;
        step = r.step;
        from = r.from;
        to = r.to;
        going = r.going;
        at = r.at;
        lifting = λ on. ap (option_map (raised_hold d)) (r.lifting on);
        lowering = λ on. ap (option_map (raised_hold d)) (r.lowering on);
        known = omega arith;
      } in
      subst (λ (z : Carry). Going l (raised d f) h z) low.is going;
  known = λ i c k age e.
      let low = lower_rest d f i c k age e in
      let e = low.carrier in
      let lt = s.known i low.c' k age low.rests in
      omega arith;
  there = λ i x e.
      let low = lower_hold d (f.hold i) x e in
      ap (λ (w : Hold). l.serves i w.stage) (sym low.is) ∙ s.there i low.x low.was;
  one_hoist = λ h h' y y' e e' same.
      let low = lower_carry d (f.carry h) y e in
      let low' = lower_carry d (f.carry h') y' e' in
      let a : low.x.carrier + d ≡ y.carrier = ap (λ (z : Carry). z.carrier) low.is in
      let b : low'.x.carrier + d ≡ y'.carrier = ap (λ (z : Carry). z.carrier) low'.is in
      s.one_hoist h h' low.x low'.x low.was low'.was (omega arith);
  not_both = λ i c k age h y rests e same.
      let low = lower_rest d f i c k age rests in
      let low' = lower_carry d (f.carry h) y e in
      let a : low'.x.carrier + d ≡ y.carrier = ap (λ (z : Carry). z.carrier) low'.is in
      let b = low.carrier in
      s.not_both i low.c' k age h low'.x low.rests low'.was (omega arith);
}

raised_comes : (l : Layout) (d : ℕ) (f g : Scene) (i c k age : ℕ) → Comes l f g i c k age
    → Comes l (raised d f) (raised d g) i (c + d) k age
raised_comes l d f g i c k zero comes =
    ⊎_elim
    (λ set. inl (record {
      h = set.h;
      y = raised_carry d set.y;
      is = ap (option_map (raised_carry d)) set.is;
      carrier = ap (λ (n : ℕ). n + d) set.carrier;
      step = set.step;
      tank = set.tank;
      ends = set.ends;
    }))
    (λ put. inr (record { stage = put.stage; carrier = ap (λ (n : ℕ). n + d) put.carrier; next = let e = put.next in omega arith }))
    comes
raised_comes l d f g i c k (suc age) comes = ap (option_map (raised_hold d)) comes

pub raised_in : (d : ℕ) (f : Scene) (c : ℕ) → IsIn f c → IsIn (raised d f) (c + d)
raised_in d f c there =
    ⊎_elim
    (λ (h, y, is, same). inl (h, raised_carry d y, ap (option_map (raised_carry d)) is, ap (λ (n : ℕ). n + d) same))
    (λ (i, k, age, rests). inr (i, k, age, ap (option_map (raised_hold d)) rests))
    there

pub lower_in : (d : ℕ) (f : Scene) (c : ℕ) → IsIn (raised d f) c → (c' : ℕ) × (c' + d ≡ c) × IsIn f c'
lower_in d f c there =
    ⊎_elim
    (λ (h, y, is, same).
    let low = lower_carry d (f.carry h) y is in
    (low.x.carrier, ap (λ (z : Carry). z.carrier) low.is ∙ same, inl (h, low.x, low.was, refl)))
    (λ (i, k, age, rests).
    let low = lower_rest d f i c k age rests in
    (low.c', low.carrier, inr (i, k, age, low.rests)))
    there

pub raised_passes : (l : Layout) (d : ℕ) (f g : Scene) → Passes l f g → Passes l (raised d f) (raised d g)
raised_passes l d f g p = record {
  next = ⊎_elim (λ same. inl (ap (λ (n : ℕ). n + d) same)) (λ more. inr (omega arith)) p.next;
  rests = λ i c k age e.
      let low = lower_rest d g i c k age e in
      subst (λ (n : ℕ). Comes l (raised d f) (raised d g) i n k age) low.carrier (raised_comes l d f g i low.c' k age (p.rests i low.c' k age low.rests));
  carried = λ h y e.
      let low = lower_carry d (g.carry h) y e in
      let x = low.x in
      ⊎_elim
      (λ begins.
      let raised_begins : BeginsFrom l (raised d f) (raised d g) (raised_carry d x) = record {
        age = begins.age;
        new = begins.new;
        comes = raised_comes l d f g x.from x.carrier x.step begins.age begins.comes;
        old_enough = begins.old_enough;
        young_enough = begins.young_enough;
      } in
      inl (subst (λ (z : Carry). BeginsFrom l (raised d f) (raised d g) z) low.is raised_begins))
      (λ was. inr (record { x = raised_carry d was.x; was = ap (option_map (raised_carry d)) was.was; is = ap (raised_carry d) was.is ∙ low.is }))
      (p.carried h x low.was);
  goes_on = λ h y e going.
      let low = lower_carry d (f.carry h) y e in
      let on : low.x.elapsed + 1 < length_of l low.x = subst (λ (z : Carry). z.elapsed + 1 < length_of l z) (sym low.is) going in
      ap (option_map (raised_carry d)) (p.goes_on h low.x low.was on) ∙ ap (λ (z : Carry). Some (grown z)) low.is;
  along = λ h y e.
      let low = lower_carry d (f.carry h) y e in
      p.along h low.x low.was ∙ ap (λ (z : Carry). move_place l z.step z.from z.to (z.elapsed + 1)) low.is;
  near = p.near;
  stays = λ c there.
      let (c', carrier, was) = lower_in d f c there in
      ⊎_elim
      (λ off. inl (record {
        i = off.i;
        age = off.age;
        comes = subst (λ (n : ℕ). Comes l (raised d f) (raised d g) off.i n l.last off.age) carrier (raised_comes l d f g off.i c' l.last off.age off.comes);
        old_enough = off.old_enough;
      }))
      (λ stays. inr (subst (λ (n : ℕ). IsIn (raised d g) n) carrier (raised_in d g c' stays)))
      (p.stays c' was);
  put = λ more. raised_in d g f.next (p.put (omega arith));
}

-- twice raised
carry_twice : (a b : ℕ) (o : Option Carry)
    → option_map (raised_carry a) (option_map (raised_carry b) o) ≡ option_map (raised_carry (b + a)) o
carry_twice a b None = refl
carry_twice a b (Some y) =
    let e : y.carrier + b + a ≡ y.carrier + (b + a) = omega arith in
    ap (λ (n : ℕ). Some (record y { carrier = n })) e

hold_twice : (a b : ℕ) (o : Option Hold)
    → option_map (raised_hold a) (option_map (raised_hold b) o) ≡ option_map (raised_hold (b + a)) o
hold_twice a b None = refl
hold_twice a b (Some x) =
    let e : x.carrier + b + a ≡ x.carrier + (b + a) = omega arith in
    ap (λ (n : ℕ). Some (record x { carrier = n })) e

pub raised_twice : (a b : ℕ) (f : Scene) → raised a (raised b f) ≡ raised (b + a) f
raised_twice a b f =
    scene_same (raised a (raised b f)) (raised (b + a) f) (λ h. refl) (λ h. carry_twice a b (f.carry h)) (λ i. hold_twice a b (f.hold i)) (omega arith)
