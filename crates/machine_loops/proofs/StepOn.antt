-- What a step that is made does to carries and to the carriers in the line.
use Rattle.std.proofs.Common.{◌≡◌, ℕ, ◌+◌, ◌-◌, ◌<◌, Bool, Option, Some, None, Result, Ok, Err, ◌⊎◌, sym, refl, ap, ◌∙◌, arith}
use Rattle.std.specs.Prelude.{true, false, ◌==◌}
use Rattle.std.specs.Option.{option_map}
use Rattle.std.proofs.lemmas.Bool.{eqb-true, cond_both}
use Rattle.tick_machine.specs.declared.breach.Breach.{Breach}
use Rattle.tick_machine.specs.declared.frame.Carry.{Carry}
use Rattle.tick_machine.specs.declared.frame.Rest.TheVariants.{Lowering, Resting}
use Rattle.tick_machine.specs.declared.order.Go.{Go}
use Rattle.tick_machine.specs.declared.order.Go.TheVariants.{Stay, Low, High}
use Rattle.tick_machine.specs.Layout.{Layout}
use Rattle.tick_machine.specs.Scene.{Scene, Command, with, hold_of}
use Rattle.tick_machine.specs.Points.{length_of, grown, busy, busy_by, busy_carry, edge, set_down, set_down_by, lift_out, lift_out_by, no_off, taken_off, no_put, put_on, lowers_now, no_lowering, lower_in, lower_in_by, begun, no_begin, carrying, begin_by, begin_move, late, near}
use Rattle.tick_machine.specs.Step.{each, first, after_tick, after_free, after_off, after_put, after_lowering, after_begin, step}
use Rattle.tick_machine.proofs.Writes.{with_other}
use Rattle.tick_machine.proofs.Passes.{first_pass, unless_ok}
use Rattle.tick_machine.proofs.PartwayStep as partway
use Rattle.machine_loops.specs.Loops.{IsCarriedIn, RestsSomewhere}
use Rattle.machine_loops.proofs.StepBack.{set_all, freed, lowered}

-- carrier c is in the line
abbrev pub IsIn : Scene → ℕ → Type 0
IsIn f c = IsCarriedIn f c ⊎ RestsSomewhere f c

-- the tests of a step that is made
pub record Tests (l : Layout) (o : Command) (f g : Scene) : Type 0 where
  pub busy : first l.hoists (busy l o f) ≡ None
  pub off : no_off l o (after_free l o f) ≡ None
  pub put : no_put l o (after_off l o f) ≡ None
  pub low : first l.hoists (λ h. no_lowering l h (each (lower_in l) h (after_put l o f))) ≡ None
  pub late : first l.tanks (late l (after_lowering l o f)) ≡ None
  pub end : after_begin l o f ≡ g

pub tests_of : (l : Layout) (o : Command) (f g : Scene) → step l o f ≡ Ok g → Tests l o f g
tests_of l o f g made =
    let p1 = unless_ok (first l.hoists (busy l o f)) _ g made in
    let p2 = unless_ok (first l.hoists (edge l o f)) _ g p1.1 in
    let p6 = unless_ok (no_off l o (after_free l o f)) _ g p2.1 in
    let p7 = unless_ok (no_put l o (after_off l o f)) _ g p6.1 in
    let p8 = unless_ok (first l.hoists (λ h. no_lowering l h (each (lower_in l) h (after_put l o f)))) _ g p7.1 in
    let p9 = unless_ok (first l.hoists (λ h. no_begin l o h (each (begin_move l o) h (after_lowering l o f)))) _ g p8.1 in
    let p10 = unless_ok (first l.tanks (late l (after_lowering l o f))) _ g p9.1 in
    let p11 = unless_ok (first (l.hoists - 1) (near l (after_begin l o f))) (Ok (after_begin l o f)) g p10.1 in
    let end : after_begin l o f ≡ g = let e = p11.1 in cc in
    record { busy = p1.0; off = p6.0; put = p7.0; low = p8.0; late = p10.0; end = end }

-- who begins has no carry, or one that ends at this tick
busy_ends : (h to : ℕ) (ends : Bool) (go : Go) → busy_by h ends go (Some to) ≡ None → ends ≡ true
busy_ends h to true go none = refl
busy_ends h to false Stay none = absurd (let g = none in cc)
busy_ends h to false Low none = absurd (let g = none in cc)
busy_ends h to false High none = absurd (let g = none in cc)

pub carry_ends : (l : Layout) (o : Command) (f : Scene) (h to : ℕ) (x : Carry) → busy l o f h ≡ None
    → o.begin h ≡ Some to
    → f.carry h ≡ Some x → x.elapsed + 1 ≡ length_of l x
carry_ends l o f h to x none is has =
    let a : busy_carry l h (Some x) (o.go h) (Some to) ≡ None =
    ap (λ (b : Option ℕ). busy_carry l h (Some x) (o.go h) b) (sym is) ∙ ap (λ (c : Option Carry). busy_carry l h c (o.go h) (o.begin h)) (sym has) ∙ none in
    eqb-true (x.elapsed + 1) (length_of l x) (busy_ends h to (x.elapsed + 1 == length_of l x) (o.go h) a)

-- carries: hoist h goes on carrying z, which does not end

set_goes_on : (l : Layout) (h : ℕ) (z : Carry) (h' : ℕ) (g : Scene) (q : Option Carry) → (z.elapsed ≡ length_of l z → ⊥)
    → g.carry h ≡ Some z → g.carry h' ≡ q → (set_down_by l h' q g).carry h ≡ Some z
set_goes_on l h z h' g None going has is = has
set_goes_on l h z h' g (Some x) going has is =
    cond_both (x.elapsed == length_of l x) (record g {
      carry = with g.carry h' None;
      hold = with g.hold x.to (Some (hold_of x.carrier (x.step + 1) (Resting 0)));
    }) g (λ s. s.carry h ≡ Some z)
    (λ ends. with_other g.carry h' None h (λ same.
    let one : x ≡ z = let a = ap g.carry same in let b = is in let d = has in cc in
    going (ap (λ (y : Carry). y.elapsed) (sym one) ∙ eqb-true x.elapsed (length_of l x) ends ∙ ap (length_of l) one)) ∙ has)
    (λ other. has)

free_goes_on : (l : Layout) (h : ℕ) (z : Carry) (g : Scene) (q : Option Carry) → g.carry h ≡ Some z
    → (lift_out_by l q g).carry h ≡ Some z
free_goes_on l h z g None has = has
free_goes_on l h z g (Some x) has = cond_both (x.elapsed == l.lift x.step)
    (record g { hold = with g.hold x.from None }) g (λ s. s.carry h ≡ Some z) (λ e. has) (λ e. has)

low_goes_on : (l : Layout) (h : ℕ) (z : Carry) (g : Scene) (q : Option Carry) → g.carry h ≡ Some z
    → (lower_in_by l q g).carry h ≡ Some z
low_goes_on l h z g None has = has
low_goes_on l h z g (Some x) has =
    cond_both (lowers_now l x) (record g { hold = with g.hold x.to (Some (hold_of x.carrier (x.step + 1) Lowering)) }) g
    (λ s. s.carry h ≡ Some z) (λ e. has) (λ e. has)

off_goes_on : (l : Layout) (o : Command) (h : ℕ) (g : Scene) → (taken_off l o g).carry h ≡ g.carry h
off_goes_on l o h g = cond_both o.off (record g { hold = with g.hold l.unload_tank None }) g (λ s. s.carry h ≡ g.carry h) (λ e. refl) (λ e. refl)

put_goes_on : (l : Layout) (o : Command) (h : ℕ) (g : Scene) → (put_on l o g).carry h ≡ g.carry h
put_goes_on l o h g =
    cond_both o.put (record g {
      hold = with g.hold l.load_tank (Some (hold_of g.next 0 (Resting 0)));
      next = g.next + 1;
    }) g (λ s. s.carry h ≡ g.carry h) (λ e. refl) (λ e. refl)

carrying_goes_on : (h h' : ℕ) (z : Carry) (g : Scene) (r : Result Carry Breach) → (h' ≡ h → ⊥) → g.carry h ≡ Some z
    → (carrying h' r g).carry h ≡ Some z
carrying_goes_on h h' z g (Err b) other has = has
carrying_goes_on h h' z g (Ok x) other has = with_other g.carry h' (Some x) h other ∙ has

begin_goes_on : (l : Layout) (h h' : ℕ) (z : Carry) (g : Scene) (q : Option ℕ) → ((to : ℕ) → q ≡ Some to → h' ≡ h → ⊥)
    → g.carry h ≡ Some z → (begin_by l h' q g).carry h ≡ Some z
begin_goes_on l h h' z g None other has = has
begin_goes_on l h h' z g (Some to) other has = carrying_goes_on h h' z g (begun l h' to g) (other to refl) has

pub carries_on : (l : Layout) (o : Command) (f g : Scene) (h : ℕ) (y : Carry) → Tests l o f g → h < l.hoists
    → f.carry h ≡ Some y
    → y.elapsed + 1 < length_of l y → (after_begin l o f).carry h ≡ Some (grown y)
carries_on l o f g h y tests there has going =
    let z : Carry = grown y in
    let t : Scene = after_tick l o f in
    let long : length_of l z ≡ length_of l y = refl in
    let set : (each (set_down l) l.hoists t).carry h ≡ Some z =
    partway.each_holds (λ n s. s.carry h ≡ Some z) (set_down l) l.hoists t (ap (option_map grown) has)
    (λ n s lt is. set_goes_on l h z n s (s.carry n) (λ e. omega arith) is refl) in
    let free : (after_free l o f).carry h ≡ Some z =
    partway.each_holds (λ n s. s.carry h ≡ Some z) (lift_out l) l.hoists (each (set_down l) l.hoists t) set
    (λ n s lt is. free_goes_on l h z s (s.carry n) is) in
    let put : (after_put l o f).carry h ≡ Some z = put_goes_on l o h (after_off l o f) ∙ off_goes_on l o h (after_free l o f) ∙ free in
    let low : (after_lowering l o f).carry h ≡ Some z =
    partway.each_holds (λ n s. s.carry h ≡ Some z) (lower_in l) l.hoists (after_put l o f) put (λ n s lt is. low_goes_on l h z s (s.carry n) is) in
    partway.each_holds (λ n s. s.carry h ≡ Some z) (begin_move l o) l.hoists (after_lowering l o f) low
    (λ n s lt is. begin_goes_on l h n z s (o.begin n) (λ to order same.
    let ends = carry_ends l o f h to y (first_pass l.hoists (busy l o f) h tests.busy there) (ap o.begin (sym same) ∙ order) has in
    omega arith) is)

-- what is carried at the end of a step has begun at this tick, or was carried before it
pub carried_before : (l : Layout) (o : Command) (f : Scene) (h : ℕ) (y : Carry)
    → (after_lowering l o f).carry h ≡ Some y
    → (after_free l o f).carry h ≡ Some y
carried_before l o f h y e = sym (off_goes_on l o h (after_free l o f)) ∙ sym (put_goes_on l o h (after_off l o f)) ∙ (lowered l o f).carry h y e

pub carried_at_first : (l : Layout) (o : Command) (f : Scene) (h : ℕ) (y : Carry) → (after_free l o f).carry h ≡ Some y
    → (after_tick l o f).carry h ≡ Some y
carried_at_first l o f h y e = (set_all l (after_tick l o f)).carry h y ((freed l o f).carry h y e)
