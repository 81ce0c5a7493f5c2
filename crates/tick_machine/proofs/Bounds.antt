-- A step makes the next carrier and all ages greater by at most 1.
use Rattle.std.proofs.Common.{◌≡◌, ℕ, ◌+◌, ◌<◌, Bool, Option, Some, None, Result, Ok, Err, IfSome, refl, subst, arith}
use Rattle.std.specs.Prelude.{true, false, cond, ◌==◌}
use Rattle.std.specs.Option.{option_map}
use Rattle.tick_machine.specs.declared.breach.Breach.{Breach}
use Rattle.tick_machine.specs.declared.frame.Carry.{Carry}
use Rattle.tick_machine.specs.declared.frame.Hold.{Hold}
use Rattle.tick_machine.specs.declared.frame.Rest.{Rest}
use Rattle.tick_machine.specs.declared.frame.Rest.TheVariants.{Lowering, Resting, Lifting}
use Rattle.tick_machine.specs.Layout.{Layout}
use Rattle.tick_machine.specs.Scene.{Scene, Command, with, hold_of}
use Rattle.tick_machine.specs.Points.{length_of, older, aged_hold, set_down, set_down_by, lift_out, lift_out_by, taken_off, lowers_now, lower_in, lower_in_by, begun, carrying, begin_by, begin_move}
use Rattle.tick_machine.specs.Step.{each, after_tick, after_free, after_off, after_put, after_lowering, after_begin, step}
use Rattle.tick_machine.specs.Rules.{RestBelow, IsBelow}
use Rattle.tick_machine.proofs.PartwayStep.{each_holds, step_end}

-- all ages are below b, and the next carrier is n
record Young (b n : ℕ) (g : Scene) : Type 0 where
  next : g.next ≡ n
  ages : (i : ℕ) → IfSome (g.hold i) (λ x. RestBelow b x.rest)

either : {A : Type 0} (P : A → Type 0) (b : Bool) (x y : A) → P x → P y → P (cond b x y)
either P true x y p q = p
either P false x y p q = q

-- a tank that is written holds nobody of a great age
written : (b i : ℕ) (hold : ℕ → Option Hold) (v : Option Hold) → IfSome v (λ x. RestBelow b x.rest)
    → ((j : ℕ) → IfSome (hold j) (λ x. RestBelow b x.rest)) → (j : ℕ)
    → IfSome (with hold i v j) (λ x. RestBelow b x.rest)
written b i hold v new old j = either (λ (o : Option Hold). IfSome o (λ x. RestBelow b x.rest)) (i == j) v (hold j) new (old j)

aged_rest : (b : ℕ) (r : Rest) → RestBelow b r → RestBelow (b + 1) (older r)
aged_rest b Lowering y = tt
aged_rest b (Resting age) y = omega arith
aged_rest b Lifting y = tt

aged_below : (b : ℕ) (o : Option Hold) → IfSome o (λ x. RestBelow b x.rest)
    → IfSome (option_map aged_hold o) (λ x. RestBelow (b + 1) x.rest)
aged_below b None y = tt
aged_below b (Some x) y = aged_rest b x.rest y

set_young : (l : Layout) (b n h : ℕ) (o : Option Carry) (f : Scene) → 0 < b → Young b n f
    → Young b n (set_down_by l h o f)
set_young l b n h None f some y = y
set_young l b n h (Some c) f some y =
    either (λ (g : Scene). Young b n g) (c.elapsed == length_of l c)
    (record f { carry = with f.carry h None; hold = with f.hold c.to (Some (hold_of c.carrier (c.step + 1) (Resting 0))) }) f
    (record { next = y.next; ages = written b c.to f.hold (Some (hold_of c.carrier (c.step + 1) (Resting 0))) some y.ages }) y

free_young : (l : Layout) (b n : ℕ) (o : Option Carry) (f : Scene) → Young b n f → Young b n (lift_out_by l o f)
free_young l b n None f y = y
free_young l b n (Some c) f y =
    either (λ (g : Scene). Young b n g) (c.elapsed == l.lift c.step) (record f { hold = with f.hold c.from None }) f
    (record { next = y.next; ages = written b c.from f.hold None tt y.ages }) y

off_young : (l : Layout) (o : Command) (b n : ℕ) (f : Scene) → Young b n f → Young b n (taken_off l o f)
off_young l o b n f y =
    either (λ (g : Scene). Young b n g) o.off (record f { hold = with f.hold l.unload_tank None }) f
    (record { next = y.next; ages = written b l.unload_tank f.hold None tt y.ages }) y

put_below : (l : Layout) (b : ℕ) (f : Scene) (put : Bool) → 0 < b → f.next + 1 < b
    → ((i : ℕ) → IfSome (f.hold i) (λ x. RestBelow b x.rest))
    → IsBelow b (cond put (record f { hold = with f.hold l.load_tank (Some (hold_of f.next 0 (Resting 0))); next = f.next + 1 }) f)
put_below l b f true some next ages = record { next = next; ages = written b l.load_tank f.hold (Some (hold_of f.next 0 (Resting 0))) some ages }
put_below l b f false some next ages = record { next = omega arith; ages = ages }

low_below : (l : Layout) (b : ℕ) (o : Option Carry) (f : Scene) → IsBelow b f → IsBelow b (lower_in_by l o f)
low_below l b None f y = y
low_below l b (Some c) f y =
    either (λ (g : Scene). IsBelow b g) (lowers_now l c) (record f { hold = with f.hold c.to (Some (hold_of c.carrier (c.step + 1) Lowering)) }) f
    (record { next = y.next; ages = written b c.to f.hold (Some (hold_of c.carrier (c.step + 1) Lowering)) tt y.ages }) y

carrying_below : (b h : ℕ) (r : Result Carry Breach) (f : Scene) → IsBelow b f → IsBelow b (carrying h r f)
carrying_below b h (Err e) f y = y
carrying_below b h (Ok c) f y = record { next = y.next; ages = written b c.from f.hold (Some (hold_of c.carrier c.step Lifting)) tt y.ages }

begin_below : (l : Layout) (b h : ℕ) (o : Option ℕ) (f : Scene) → IsBelow b f → IsBelow b (begin_by l h o f)
begin_below l b h None f y = y
begin_below l b h (Some to) f y = carrying_below b h (begun l h to f) f y

-- the frame at the end of the step, whether it has a breach or not
pub ends_below : (l : Layout) (o : Command) (b : ℕ) (f : Scene) → IsBelow b f → IsBelow (b + 1) (after_begin l o f)
ends_below l o b f below =
    let t : Scene = after_tick l o f in
    let some : 0 < b + 1 = omega arith in
    let start : Young (b + 1) f.next t = record { next = refl; ages = λ i. aged_below b (f.hold i) (below.ages i) } in
    let set : Young (b + 1) f.next (each (set_down l) l.hoists t) =
    each_holds (λ h g. Young (b + 1) f.next g) (set_down l) l.hoists t start (λ h g lt y. set_young l (b + 1) f.next h (g.carry h) g some y) in
    let free : Young (b + 1) f.next (after_free l o f) =
    each_holds (λ h g. Young (b + 1) f.next g) (lift_out l) l.hoists (each (set_down l) l.hoists t) set
    (λ h g lt y. free_young l (b + 1) f.next (g.carry h) g y) in
    let off : Young (b + 1) f.next (after_off l o f) = off_young l o (b + 1) f.next (after_free l o f) free in
    let next : (after_off l o f).next + 1 < b + 1 = let e = off.next in let lt = below.next in omega arith in
    let put : IsBelow (b + 1) (after_put l o f) = put_below l (b + 1) (after_off l o f) o.put some next off.ages in
    let low : IsBelow (b + 1) (after_lowering l o f) =
    each_holds (λ h g. IsBelow (b + 1) g) (lower_in l) l.hoists (after_put l o f) put (λ h g lt y. low_below l (b + 1) (g.carry h) g y) in
    each_holds (λ h g. IsBelow (b + 1) g) (begin_move l o) l.hoists (after_lowering l o f) low (λ h g lt y. begin_below l (b + 1) h (o.begin h) g y)

-- the frame to which a step leads
pub step_below : (l : Layout) (o : Command) (b : ℕ) (f g : Scene) → IsBelow b f → step l o f ≡ Ok g → IsBelow (b + 1) g
step_below l o b f g below made = subst (λ (x : Scene). IsBelow (b + 1) x) (step_end l o f g made) (ends_below l o b f below)
