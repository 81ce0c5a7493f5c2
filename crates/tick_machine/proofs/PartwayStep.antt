-- A step by any order keeps the frame rules.
use Rattle.std.proofs.Common.{◌≡◌, ℕ, zero, suc, ◌+◌, ◌-◌, ◌≤◌, ◌<◌, Bool, Option, Some, None, Result, Ok, Err, IfSome, ⊎_elim, sym, refl, ap, subst, ◌∙◌, arith}
use Rattle.std.specs.Prelude.{true, false, cond, ◌==◌, nat_lt}
use Rattle.std.proofs.lemmas.Bool.{cases_eq, eq-eqb, eqb-true, ltb-true, ltb-false}
use Rattle.tick_machine.specs.declared.breach.Breach.{Breach}
use Rattle.tick_machine.specs.declared.breach.Breach.TheVariants.{Late, Near, Early, NoWay, NoMove}
use Rattle.tick_machine.specs.declared.frame.Carry.{Carry}
use Rattle.tick_machine.specs.declared.frame.Hold.{Hold}
use Rattle.tick_machine.specs.declared.frame.Rest.{Rest}
use Rattle.tick_machine.specs.declared.frame.Rest.TheVariants.{Lowering, Resting, Lifting}
use Rattle.tick_machine.specs.declared.order.Go.{Go}
use Rattle.tick_machine.specs.declared.order.Go.TheVariants.{Stay, Low, High}
use Rattle.tick_machine.specs.Layout.{Layout, IsLayout, move_place}
use Rattle.tick_machine.specs.Scene.{Scene, Command, with, hold_of}
use Rattle.tick_machine.specs.Points.{length_of, busy, busy_by, busy_carry, edge, set_down, set_down_by, lift_out, lift_out_by, no_off, no_off_by, no_off_rest, no_put, held, lowers_now, no_lowering, no_lowering_by, lower_in, lower_in_by, tank_among, begin_rest, begin_hold, begin_tank, begun, no_begin, carrying, begin_by, begin_move, late, late_by, late_rest, near}
use Rattle.tick_machine.specs.Step.{each, first, after_tick, after_free, after_off, after_put, after_lowering, after_begin, step}
use Rattle.tick_machine.specs.Rules.{AreApart, KeepsRules}
use Rattle.tick_machine.proofs.Ticks.{ticks_long, place_start}
use Rattle.tick_machine.proofs.Passes.{or_else_parts, first_pass, unless_ok}
use Rattle.tick_machine.proofs.Fitting.{frame_fits, tick_fits}
use Rattle.tick_machine.proofs.Writes.{with_same, with_other}
use Rattle.tick_machine.proofs.Partway.{Parts}
use Rattle.tick_machine.proofs.PartwayTick.{grown_from, passes_keep}
use Rattle.tick_machine.proofs.PartwaySet.{sets_keep}
use Rattle.tick_machine.proofs.PartwayFree.{frees_keep, idle_frees, idle_sets, clears_keep, puts_keep}
use Rattle.tick_machine.proofs.PartwayLower.{lowers_keep, idle_keeps}
use Rattle.tick_machine.proofs.PartwayBegin.{begins_keep}
use Rattle.tick_machine.proofs.PartwayEnd.{ends_keep}

-- the frame g within the events of a tick that began as t: hoists stand as they did, and no carry is new
pub record Turn (l : Layout) (set free low : ℕ) (t g : Scene) : Type 0 where
  pub parts : Parts l set free low g
  pub carry : (h : ℕ) (y : Carry) → g.carry h ≡ Some y → t.carry h ≡ Some y
  pub at : g.at ≡ t.at

-- what one hoist after another keeps
pub each_holds : (P : ℕ → Scene → Type 0) (act : ℕ → Scene → Scene) (n : ℕ) (f : Scene) → P 0 f
    → ((h : ℕ) (g : Scene) → h < n → P h g → P (h + 1) (act h g)) → P n (each act n f)
each_holds P act zero f start keeps = start
each_holds P act (suc n) f start keeps =
    let e : n + 1 ≡ suc n = omega arith in
    subst (λ (m : ℕ). P m (act n (each act n f))) e (keeps n (each act n f) (omega arith) (each_holds P act n f start (λ h g lt. keeps h g (omega arith))))

cleared : (f : ℕ → Option Carry) (h h' : ℕ) (y : Carry) → with f h None h' ≡ Some y → f h' ≡ Some y
cleared f h h' y e =
    ⊎_elim
    (λ same. absurd (let a = with_same f h None h' same in let b = e in cc))
    (λ other. sym (with_other f h None h' other) ∙ e)
    (cases_eq h h')

-- point 4
set_if : (l : Layout) (t : Scene) (h : ℕ) (f : Scene) (x : Carry) (b : Bool) → IsLayout l → Turn l h 0 0 t f
    → f.carry h ≡ Some x → (x.elapsed == length_of l x) ≡ b
    → Turn l (h + 1) 0 0 t (cond b (record f { carry = with f.carry h None; hold = with f.hold x.to (Some (hold_of x.carrier (x.step + 1) (Resting 0))) }) f)
set_if l t h f x true layout turn has test =
    let ends : x.elapsed ≡ length_of l x = eqb-true x.elapsed (length_of l x) test in
    let own = turn.parts.carries h x has in
    let low = (layout.lower x.step own.step).0 in
    let long = ticks_long l x.step x.from x.to in
    record {
      parts = sets_keep l h f x turn.parts has ends (omega arith) (omega arith);
      carry = λ h' y e. turn.carry h' y (cleared f.carry h h' y e);
      at = turn.at;
    }
set_if l t h f x false layout turn has test = record {
  parts = idle_sets l h f turn.parts (λ y e at.
      let same : x ≡ y = cc in
      let here : x.elapsed ≡ length_of l x = subst (λ (z : Carry). z.elapsed ≡ length_of l z) (sym same) at in
      let yes : (x.elapsed == length_of l x) ≡ true = eq-eqb x.elapsed (length_of l x) here in
      cc);
  carry = turn.carry;
  at = turn.at;
}

set_at : (l : Layout) (t : Scene) (h : ℕ) (f : Scene) (o : Option Carry) → IsLayout l → Turn l h 0 0 t f → f.carry h ≡ o
    → Turn l (h + 1) 0 0 t (set_down_by l h o f)
set_at l t h f None layout turn has = record { parts = idle_sets l h f turn.parts (λ y e at. let a = has in let b = e in cc); carry = turn.carry; at = turn.at }
set_at l t h f (Some x) layout turn has = set_if l t h f x (x.elapsed == length_of l x) layout turn has refl

-- point 5
free_if : (l : Layout) (t : Scene) (set h : ℕ) (f : Scene) (x : Carry) (b : Bool) → Turn l set h 0 t f
    → f.carry h ≡ Some x → (x.elapsed == l.lift x.step) ≡ b
    → Turn l set (h + 1) 0 t (cond b (record f { hold = with f.hold x.from None }) f)
free_if l t set h f x true turn has test = record {
  parts = frees_keep l set h f x turn.parts has (eqb-true x.elapsed (l.lift x.step) test);
  carry = turn.carry;
  at = turn.at;
}
free_if l t set h f x false turn has test = record {
  parts = idle_frees l set h f turn.parts (λ y e at.
      let same : x ≡ y = cc in
      let here : x.elapsed ≡ l.lift x.step = subst (λ (z : Carry). z.elapsed ≡ l.lift z.step) (sym same) at in
      let yes : (x.elapsed == l.lift x.step) ≡ true = eq-eqb x.elapsed (l.lift x.step) here in
      cc);
  carry = turn.carry;
  at = turn.at;
}

free_at : (l : Layout) (t : Scene) (set h : ℕ) (f : Scene) (o : Option Carry) → Turn l set h 0 t f → f.carry h ≡ o
    → Turn l set (h + 1) 0 t (lift_out_by l o f)
free_at l t set h f None turn has = record {
  parts = idle_frees l set h f turn.parts
      (λ y e at. let a = has in let b = e in cc);
  carry = turn.carry;
  at = turn.at;
}
free_at l t set h f (Some x) turn has = free_if l t set h f x (x.elapsed == l.lift x.step) turn has refl

-- point 6
off_rests : (l : Layout) (x : Hold) (r : Rest) → no_off_rest l x r ≡ None → (age : ℕ) × (r ≡ Resting age)
off_rests l x Lowering none = absurd (let g = none in cc)
off_rests l x (Resting age) none = (age, refl)
off_rests l x Lifting none = absurd (let g = none in cc)

off_held : (l : Layout) (o : Option Hold) → no_off_by l o ≡ None
    → (c : ℕ) × (k : ℕ) × (age : ℕ) × (o ≡ Some (hold_of c k (Resting age)))
off_held l None none = absurd (let g = none in cc)
off_held l (Some x) none =
    let (age, resting) = off_rests l x x.rest none in
    (x.carrier, x.stage, age, ap (λ (r : Rest). Some (hold_of x.carrier x.stage r)) resting)

off_turn : (l : Layout) (n : ℕ) (t f : Scene) (b : Bool) → Turn l n n 0 t f
    → cond b (no_off_by l (f.hold l.unload_tank)) None ≡ None
    → Turn l n n 0 t (cond b (record f { hold = with f.hold l.unload_tank None }) f)
off_turn l n t f true turn none =
    let (c, k, age, was) = off_held l (f.hold l.unload_tank) none in
    record { parts = clears_keep l n n 0 l.unload_tank c k age f turn.parts was; carry = turn.carry; at = turn.at }
off_turn l n t f false turn none = turn

-- a tank that must be free is
free_tank : (i : ℕ) (o : Option Hold) → held i o ≡ None → o ≡ None
free_tank i None none = refl
free_tank i (Some x) none = absurd (let g = none in cc)

-- point 7
put_turn : (l : Layout) (n : ℕ) (t f : Scene) (b : Bool) → IsLayout l → Turn l n n 0 t f
    → cond b (held l.load_tank (f.hold l.load_tank)) None ≡ None
    → Turn l n n 0 t (cond b (record f { hold = with f.hold l.load_tank (Some (hold_of f.next 0 (Resting 0))); next = f.next + 1 }) f)
put_turn l n t f true layout turn none = record {
  parts = puts_keep l n n 0 f layout turn.parts
      (free_tank l.load_tank (f.hold l.load_tank) none);
  carry = turn.carry;
  at = turn.at;
}
put_turn l n t f false layout turn none = turn

-- point 8
low_if : (l : Layout) (t : Scene) (n h : ℕ) (f : Scene) (x : Carry) (b : Bool) → Turn l n n h t f → f.carry h ≡ Some x
    → lowers_now l x ≡ b → cond b (held x.to (f.hold x.to)) None ≡ None
    → Turn l n n (h + 1) t (cond b (record f { hold = with f.hold x.to (Some (hold_of x.carrier (x.step + 1) Lowering)) }) f)
low_if l t n h f x true turn has test none = record {
  parts = lowers_keep l n n h f x turn.parts has test
      (free_tank x.to (f.hold x.to) none);
  carry = turn.carry;
  at = turn.at;
}
low_if l t n h f x false turn has test none = record {
  parts = idle_keeps l n n h f turn.parts (λ y e at.
      let same : x ≡ y = cc in
      let here : x.elapsed + l.lower (x.step + 1) ≡ length_of l x = subst (λ (z : Carry). z.elapsed + l.lower (z.step + 1) ≡ length_of l z) (sym same) at in
      let yes : lowers_now l x ≡ true = eq-eqb (x.elapsed + l.lower (x.step + 1)) (length_of l x) here in
      cc);
  carry = turn.carry;
  at = turn.at;
}

low_at : (l : Layout) (t : Scene) (n h : ℕ) (f : Scene) (o : Option Carry) → Turn l n n h t f → f.carry h ≡ o
    → no_lowering_by l o f ≡ None → Turn l n n (h + 1) t (lower_in_by l o f)
low_at l t n h f None turn has none = record {
  parts = idle_keeps l n n h f turn.parts
      (λ y e at. let a = has in let b = e in cc);
  carry = turn.carry;
  at = turn.at;
}
low_at l t n h f (Some x) turn has none = low_if l t n h f x (lowers_now l x) turn has refl none

-- point 9: what a carry that begins has found
tank_found : (l : Layout) (at n i : ℕ) (b : Bool) → (tank_among l at n ≡ Some i → l.place i ≡ at)
    → (l.place n == at) ≡ b → cond b (Some n) (tank_among l at n) ≡ Some i → l.place i ≡ at
tank_found l at n i true below is e = let same : n ≡ i = let g = e in cc in ap l.place (sym same) ∙ eqb-true (l.place n) at is
tank_found l at n i false below is e = below e

place_of_tank : (l : Layout) (at n i : ℕ) → tank_among l at n ≡ Some i → l.place i ≡ at
place_of_tank l at zero i e = absurd (let g = e in cc)
place_of_tank l at (suc n) i e = tank_found l at n i (l.place n == at) (place_of_tank l at n i) refl e

passed_all : (a b d : Bool) (p q r : Breach) (x c : Carry)
    → cond a (cond b (cond d (Err p) (Ok x)) (Err q)) (Err r) ≡ Ok c → (a ≡ true) × (b ≡ true) × (x ≡ c)
passed_all true true false p q r x c e = (refl, refl, let g = e in cc)
passed_all true true true p q r x c e = absurd (let g = e in cc)
passed_all true false d p q r x c e = absurd (let g = e in cc)
passed_all false b d p q r x c e = absurd (let g = e in cc)

record Begins (l : Layout) (at from to : ℕ) (o : Option Hold) (x : Carry) : Type 0 where
  c : ℕ
  k : ℕ
  age : ℕ
  held : o ≡ Some (hold_of c k (Resting age))
  below : k < l.last
  way : l.serves to (k + 1) ≡ true
  is : x ≡ record { carrier = c; step = k; elapsed = 0; from = from; to = to }

begins_rest : (l : Layout) (h at from to : ℕ) (y : Hold) (r : Rest) (x : Carry) → y.rest ≡ r
    → begin_rest l h at from to y r ≡ Ok x → Begins l at from to (Some y) x
begins_rest l h at from to y Lowering x rest e = absurd (let g = e in cc)
begins_rest l h at from to y (Resting age) x rest e =
    let (a, b, d) = passed_all (nat_lt y.stage l.last) (l.serves to (y.stage + 1)) (nat_lt age (l.least y.stage))
    (Early y.carrier y.stage age (l.least y.stage)) (NoWay h to) (NoMove y.carrier y.stage)
    (record { carrier = y.carrier; step = y.stage; elapsed = 0; from = from; to = to }) x e in
    record {
      c = y.carrier;
      k = y.stage;
      age = age;
      held = ap (λ (r : Rest). Some (hold_of y.carrier y.stage r)) rest;
      below = ltb-true y.stage l.last a;
      way = b;
      is = sym d;
    }
begins_rest l h at from to y Lifting x rest e = absurd (let g = e in cc)

begins_hold : (l : Layout) (h at from to : ℕ) (o : Option Hold) (x : Carry) → begin_hold l h at from to o ≡ Ok x
    → Begins l at from to o x
begins_hold l h at from to None x e = absurd (let g = e in cc)
begins_hold l h at from to (Some y) x e = begins_rest l h at from to y y.rest x refl e

begins_tank : (l : Layout) (h at to : ℕ) (o : Option ℕ) (f : Scene) (x : Carry) → begin_tank l h at to o f ≡ Ok x
    → (from : ℕ) × (o ≡ Some from) × Begins l at from to (f.hold from) x
begins_tank l h at to None f x e = absurd (let g = e in cc)
begins_tank l h at to (Some from) f x e = (from, refl, begins_hold l h at from to (f.hold from) x e)

-- who may begin has no carry, or one that ends at this tick
busy_ends : (h to : ℕ) (ends : Bool) (go : Go) → busy_by h ends go (Some to) ≡ None → ends ≡ true
busy_ends h to true go none = refl
busy_ends h to false Stay none = absurd (let g = none in cc)
busy_ends h to false Low none = absurd (let g = none in cc)
busy_ends h to false High none = absurd (let g = none in cc)

carry_ends : (l : Layout) (h to : ℕ) (go : Go) (begin : Option ℕ) (o : Option Carry) (x : Carry)
    → busy_carry l h o go begin ≡ None → begin ≡ Some to → o ≡ Some x → x.elapsed + 1 ≡ length_of l x
carry_ends l h to go begin o x none is has =
    let a : busy_carry l h (Some x) go (Some to) ≡ None =
    ap (λ (b : Option ℕ). busy_carry l h (Some x) go b) (sym is) ∙ ap (λ (c : Option Carry). busy_carry l h c go begin) (sym has) ∙ none in
    eqb-true (x.elapsed + 1) (length_of l x) (busy_ends h to (x.elapsed + 1 == length_of l x) go a)

-- the frame g, where the hoists below h have begun their moves from the frame m
record BeginTurn (l : Layout) (h : ℕ) (t m g : Scene) : Type 0 where
  parts : Parts l l.hoists l.hoists l.hoists g
  carry : (h' : ℕ) (y : Carry) → h ≤ h' → g.carry h' ≡ Some y → t.carry h' ≡ Some y
  at : g.at ≡ t.at
  rests : (i c k age : ℕ) → g.hold i ≡ Some (hold_of c k (Resting age)) → m.hold i ≡ Some (hold_of c k (Resting age))

is_idle : (l : Layout) (o : Command) (f : Scene) (h to : ℕ) (m g : Scene) (q : Option Carry)
    → BeginTurn l h (after_tick l o f) m g → h < l.hoists → busy l o f h ≡ None → o.begin h ≡ Some to → g.carry h ≡ q
    → q ≡ None
is_idle l o f h to m g None turn there free order has = refl
is_idle l o f h to m g (Some y) turn there free order has =
    let was = grown_from (f.carry h) y (turn.carry h y (omega arith) has) in
    let ends : was.x.elapsed + 1 ≡ length_of l was.x = carry_ends l h to (o.go h) (o.begin h) (f.carry h) was.x free order was.was in
    let e : was.x.elapsed + 1 ≡ y.elapsed = ap (λ (z : Carry). z.elapsed) was.is in
    let d : length_of l was.x ≡ length_of l y = ap (length_of l) was.is in
    absurd (let r = (turn.parts.carries h y has).going in omega arith)

start_turn : (l : Layout) (h to from : ℕ) (t m g : Scene) (x : Carry) → IsLayout l → BeginTurn l h t m g → h < l.hoists
    → g.carry h ≡ None → tank_among l (g.at h) l.tanks ≡ Some from → Begins l (g.at h) from to (g.hold from) x
    → BeginTurn l (h + 1) t m (carrying h (Ok x) g)
start_turn l h to from t m g x layout turn there idle tank begins =
    let lift = (layout.lift begins.k begins.below).0 in
    let low = (layout.lower begins.k begins.below).0 in
    let carrier : x.carrier ≡ begins.c = ap (λ (z : Carry). z.carrier) begins.is in
    let step : x.step ≡ begins.k = ap (λ (z : Carry). z.step) begins.is in
    let elapsed : x.elapsed ≡ 0 = ap (λ (z : Carry). z.elapsed) begins.is in
    let at_from : x.from ≡ from = ap (λ (z : Carry). z.from) begins.is in
    let long : l.lift begins.k + l.lower (begins.k + 1) ≤ length_of l x =
    subst (λ (j : ℕ). l.lift j + l.lower (j + 1) ≤ length_of l x) step (ticks_long l x.step x.from x.to) in
    let stands : g.at h ≡ move_place l x.step x.from x.to x.elapsed =
    sym (ap (move_place l x.step x.from x.to) elapsed ∙ place_start l x.step x.from x.to ∙ ap l.place at_from ∙ place_of_tank l (g.at h) l.tanks from tank) in
    let kept = begins_keep l l.hoists h begins.c begins.k begins.age from to g x turn.parts there there stands idle
    begins.held begins.below begins.way (omega arith) (omega arith) begins.is in
    let same : Some (hold_of begins.c begins.k Lifting) ≡ Some (hold_of x.carrier x.step Lifting) =
    ap (λ (n : ℕ). Some (hold_of n begins.k Lifting)) (sym carrier) ∙ ap (λ (j : ℕ). Some (hold_of x.carrier j Lifting)) (sym step) in
    let parts : Parts l l.hoists l.hoists l.hoists (carrying h (Ok x) g) =
    subst (λ (v : Option Hold). Parts l l.hoists l.hoists l.hoists (record g { carry = with g.carry h (Some x); hold = with g.hold x.from v })) same
    (subst (λ (i : ℕ). Parts l l.hoists l.hoists l.hoists (record g {
      carry = with g.carry h (Some x);
      hold = with g.hold i (Some (hold_of begins.c begins.k Lifting));
    })) (sym at_from) kept) in
    record {
      parts = parts;
      carry = λ h' y above e. turn.carry h' y (omega arith) (sym (with_other g.carry h (Some x) h' (omega arith)) ∙ e);
      at = turn.at;
      rests = λ i c k age e. turn.rests i c k age (⊎_elim
          (λ here.
          let two : hold_of x.carrier x.step Lifting ≡ hold_of c k (Resting age) = let a = with_same g.hold x.from
          (Some (hold_of x.carrier x.step Lifting)) i here in let b = e in cc in
          let apart : Lifting ≡ Resting age = ap (λ (w : Hold). w.rest) two in
          absurd (let q = apart in cc))
          (λ other. sym (with_other g.hold x.from (Some (hold_of x.carrier x.step Lifting)) i other) ∙ e)
          (cases_eq x.from i));
    }

begun_turn : (l : Layout) (h to : ℕ) (t m g : Scene) (r : Result Carry Breach) → IsLayout l → BeginTurn l h t m g
    → h < l.hoists → g.carry h ≡ None → begun l h to g ≡ r → BeginTurn l (h + 1) t m (carrying h r g)
begun_turn l h to t m g (Err b) layout turn there idle is = record {
  parts = turn.parts;
  carry = λ h' y above e. turn.carry h' y (omega arith) e;
  at = turn.at;
  rests = turn.rests;
}
begun_turn l h to t m g (Ok x) layout turn there idle is =
    let (from, tank, begins) = begins_tank l h (g.at h) to (tank_among l (g.at h) l.tanks) g x is in
    start_turn l h to from t m g x layout turn there idle tank begins

begin_at : (l : Layout) (o : Command) (f : Scene) (h : ℕ) (m g : Scene) (q : Option ℕ) → IsLayout l
    → BeginTurn l h (after_tick l o f) m g → h < l.hoists → busy l o f h ≡ None → o.begin h ≡ q
    → BeginTurn l (h + 1) (after_tick l o f) m (begin_by l h q g)
begin_at l o f h m g None layout turn there free order = record {
  parts = turn.parts;
  carry = λ h' y above e. turn.carry h' y (omega arith) e;
  at = turn.at;
  rests = turn.rests;
}
begin_at l o f h m g (Some to) layout turn there free order =
    begun_turn l h to (after_tick l o f) m g (begun l h to g) layout turn there (is_idle l o f h to m g (g.carry h) turn there free order refl) refl

-- point 10
young_if : (x : Hold) (age m : ℕ) (b : Bool) → nat_lt m age ≡ b
    → cond b (Some (Late x.carrier x.stage age m)) None ≡ None → age ≤ m
young_if x age m true is none = absurd (let g = none in cc)
young_if x age m false is none = ltb-false m age is

young : (x : Hold) (age : ℕ) (o : Option ℕ) → late_rest x age o ≡ None → IfSome o (λ m. age ≤ m)
young x age None none = tt
young x age (Some m) none = young_if x age m (nat_lt m age) refl none

-- point 11
apart_if : (l : Layout) (h low high : ℕ) (b : Bool) → nat_lt high (low + l.gap) ≡ b
    → cond b (Some (Near h low high)) None ≡ None → low + l.gap ≤ high
apart_if l h low high true is none = absurd (let g = none in cc)
apart_if l h low high false is none = ltb-false high (low + l.gap) is

-- the frame before point 6
freed : (l : Layout) (o : Command) (f : Scene) → IsLayout l → KeepsRules l f
    → Turn l l.hoists l.hoists 0 (after_tick l o f) (after_free l o f)
freed l o f layout rules =
    let t : Scene = after_tick l o f in
    let start : Turn l 0 0 0 t t = record { parts = passes_keep l o f rules; carry = λ h y e. e; at = refl } in
    let set : Turn l l.hoists 0 0 t (each (set_down l) l.hoists t) =
    each_holds (λ h g. Turn l h 0 0 t g) (set_down l) l.hoists t start (λ h g lt turn. set_at l t h g (g.carry h) layout turn refl) in
    each_holds (λ h g. Turn l l.hoists h 0 t g) (lift_out l) l.hoists (each (set_down l) l.hoists t) set
    (λ h g lt turn. free_at l t l.hoists h g (g.carry h) turn refl)

-- point 8, one hoist after another, where none has a breach
lowered : (l : Layout) (n : ℕ) (t f : Scene) → Turn l l.hoists l.hoists 0 t f
    → first n (λ h. no_lowering l h (each (lower_in l) h f)) ≡ None
    → Turn l l.hoists l.hoists n t (each (lower_in l) n f)
lowered l zero t f turn none = turn
lowered l (suc n) t f turn none =
    let p = or_else_parts (first n (λ h. no_lowering l h (each (lower_in l) h f))) (no_lowering l n (each (lower_in l) n f)) none in
    let g : Scene = each (lower_in l) n f in
    let e : n + 1 ≡ suc n = omega arith in
    subst (λ (j : ℕ). Turn l l.hoists l.hoists j t (lower_in l n g)) e (low_at l t l.hoists n g (g.carry n) (lowered l n t f turn p.0) refl p.1)

-- a step that is made leads to the frame at the end of all points
pub step_end : (l : Layout) (o : Command) (f g : Scene) → step l o f ≡ Ok g → after_begin l o f ≡ g
step_end l o f g made =
    let p1 = unless_ok (first l.hoists (busy l o f)) _ g made in
    let p2 = unless_ok (first l.hoists (edge l o f)) _ g p1.1 in
    let p6 = unless_ok (no_off l o (after_free l o f)) _ g p2.1 in
    let p7 = unless_ok (no_put l o (after_off l o f)) _ g p6.1 in
    let p8 = unless_ok (first l.hoists (λ h. no_lowering l h (each (lower_in l) h (after_put l o f)))) _ g p7.1 in
    let p9 = unless_ok (first l.hoists (λ h. no_begin l o h (each (begin_move l o) h (after_lowering l o f)))) _ g p8.1 in
    let p10 = unless_ok (first l.tanks (late l (after_lowering l o f))) _ g p9.1 in
    let p11 = unless_ok (first (l.hoists - 1) (near l (after_begin l o f))) (Ok (after_begin l o f)) g p10.1 in
    let e = p11.1 in cc

pub step_keeps : (l : Layout) (o : Command) (f g : Scene) → IsLayout l → KeepsRules l f → step l o f ≡ Ok g
    → KeepsRules l g
step_keeps l o f g layout rules made =
    let t : Scene = after_tick l o f in
    let m : Scene = after_lowering l o f in
    let p1 = unless_ok (first l.hoists (busy l o f)) _ g made in
    let p2 = unless_ok (first l.hoists (edge l o f)) _ g p1.1 in
    let p6 = unless_ok (no_off l o (after_free l o f)) _ g p2.1 in
    let p7 = unless_ok (no_put l o (after_off l o f)) _ g p6.1 in
    let p8 = unless_ok (first l.hoists (λ h. no_lowering l h (each (lower_in l) h (after_put l o f)))) _ g p7.1 in
    let p9 = unless_ok (first l.hoists (λ h. no_begin l o h (each (begin_move l o) h m))) _ g p8.1 in
    let p10 = unless_ok (first l.tanks (late l m)) _ g p9.1 in
    let p11 = unless_ok (first (l.hoists - 1) (near l (after_begin l o f))) (Ok (after_begin l o f)) g p10.1 in
    let end : after_begin l o f ≡ g = let e = p11.1 in cc in
    let off : Turn l l.hoists l.hoists 0 t (after_off l o f) = off_turn l l.hoists t (after_free l o f) o.off (freed l o f layout rules) p6.0 in
    let put : Turn l l.hoists l.hoists 0 t (after_put l o f) = put_turn l l.hoists t (after_off l o f) o.put layout off p7.0 in
    let low : Turn l l.hoists l.hoists l.hoists t m = lowered l l.hoists t (after_put l o f) put p8.0 in
    let start : BeginTurn l 0 t m m = record { parts = low.parts; carry = λ h y above e. low.carry h y e; at = low.at; rests = λ i c k age e. e } in
    let done : BeginTurn l l.hoists t m (after_begin l o f) =
    each_holds (λ h x. BeginTurn l h t m x) (begin_move l o) l.hoists m start
    (λ h x lt turn. begin_at l o f h m x (o.begin h) layout turn lt
    (first_pass l.hoists (busy l o f) h p1.0 lt) refl) in
    let fits = tick_fits l o f layout (frame_fits l f layout rules) p2.0 in
    let apart : AreApart l (after_begin l o f).at = record {
      within = λ h lt. subst (λ (at : ℕ → ℕ). at h ≤ l.track) (sym done.at) (fits.at h lt);
      gap = λ h lt. apart_if l h ((after_begin l o f).at h) ((after_begin l o f).at (h + 1))
          (nat_lt ((after_begin l o f).at (h + 1)) ((after_begin l o f).at h + l.gap)) refl
          (first_pass (l.hoists - 1) (near l (after_begin l o f)) h p11.0 (omega arith));
    } in
    subst (λ (x : Scene). KeepsRules l x) end (ends_keep l (after_begin l o f) done.parts apart (λ i c k age e.
    let was : m.hold i ≡ Some (hold_of c k (Resting age)) = done.rests i c k age e in
    let there : i < l.tanks = layout.there i k (low.parts.holds i (hold_of c k (Resting age)) was).serves in
    let on_time = first_pass l.tanks (late l m) i p10.0 there in
    young (hold_of c k (Resting age)) age (l.greatest k) (ap (late_by l) (sym was) ∙ on_time)))
