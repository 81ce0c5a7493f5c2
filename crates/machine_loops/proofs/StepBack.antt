-- Where what is carried and what rests at the end of a step was before it.
use Rattle.std.proofs.Common.{◌≡◌, ℕ, zero, suc, ◌+◌, ◌≤◌, Bool, Option, Some, None, Result, Ok, Err, ◌⊎◌, inl, inr, ⊎_elim, sym, refl, ap, subst, ◌∙◌, arith}
use Rattle.std.specs.Prelude.{true, false, cond, ◌==◌, nat_lt}
use Rattle.std.proofs.lemmas.Bool.{cases_eq, eqb-true, ltb-false, cond_both}
use Rattle.tick_machine.specs.declared.breach.Breach.{Breach}
use Rattle.tick_machine.specs.declared.breach.Breach.TheVariants.{Early, NoWay, NoMove}
use Rattle.tick_machine.specs.declared.frame.Carry.{Carry}
use Rattle.tick_machine.specs.declared.frame.Hold.{Hold}
use Rattle.tick_machine.specs.declared.frame.Rest.{Rest}
use Rattle.tick_machine.specs.declared.frame.Rest.TheVariants.{Lowering, Resting, Lifting}
use Rattle.tick_machine.specs.Layout.{Layout}
use Rattle.tick_machine.specs.Scene.{Scene, Command, with, hold_of}
use Rattle.tick_machine.specs.Points.{length_of, older, set_down, set_down_by, lift_out, lift_out_by, taken_off, put_on, lowers_now, lower_in, lower_in_by, tank_among, begin_rest, begin_hold, begin_tank, begun, carrying, begin_by, begin_move}
use Rattle.tick_machine.specs.Step.{each, after_tick, after_free, after_off, after_put, after_lowering, after_begin}
use Rattle.tick_machine.proofs.Writes.{with_same, with_other}
use Rattle.tick_machine.proofs.PartwayTick.{grown_from, aged_from, hold_is}
use Rattle.tick_machine.proofs.PartwayStep.{each_holds}

-- carrier c rests in tank i at stage k, and is so old
abbrev pub Rests : Scene → ℕ → ℕ → ℕ → ℕ → Type 0
Rests f i c k age = f.hold i ≡ Some (hold_of c k (Resting age))

-- hoist h ends its carry of c to stage k, in tank i, at the end of the tick that begins with f
pub record SetsDown (l : Layout) (f : Scene) (i c k : ℕ) : Type 0 where
  pub h : ℕ
  pub y : Carry
  pub is : f.carry h ≡ Some y
  pub carrier : y.carrier ≡ c
  pub step : y.step + 1 ≡ k
  pub tank : y.to ≡ i
  pub ends : y.elapsed + 1 ≡ length_of l y

-- c is put on
pub record PutsOn (f g : Scene) (c k : ℕ) : Type 0 where
  pub stage : k ≡ 0
  pub carrier : f.next ≡ c
  pub next : g.next ≡ c + 1

-- c has come to rest just now, or rested there a tick before
abbrev pub Comes : Layout → Scene → Scene → ℕ → ℕ → ℕ → ℕ → Type 0
Comes l f g i c k zero = SetsDown l f i c k ⊎ PutsOn f g c k
Comes l f g i c k (suc age) = Rests f i c k age

pub some_same : {A : Type 0} (a b : A) → Some a ≡ Some b → a ≡ b
some_same a b e = let g = e in cc

-- what rests in a tank after a write is what was written, or rested there before
pub written_rest : (hold : ℕ → Option Hold) (j : ℕ) (v : Option Hold) (i c k age : ℕ)
    → with hold j v i ≡ Some (hold_of c k (Resting age))
    → ((j ≡ i) × (v ≡ Some (hold_of c k (Resting age)))) ⊎ (hold i ≡ Some (hold_of c k (Resting age)))
written_rest hold j v i c k age e =
    ⊎_elim
    (λ here. inl (here, sym (with_same hold j v i here) ∙ e))
    (λ other. inr (sym (with_other hold j v i other) ∙ e))
    (cases_eq j i)

cleared_rest : (hold : ℕ → Option Hold) (j i c k age : ℕ) → with hold j None i ≡ Some (hold_of c k (Resting age))
    → hold i ≡ Some (hold_of c k (Resting age))
cleared_rest hold j i c k age e = ⊎_elim (λ (here, none). absurd (let g = none in cc)) (λ was. was) (written_rest hold j None i c k age e)

moving_rest : (hold : ℕ → Option Hold) (j d m : ℕ) (r : Rest) (i c k age : ℕ) → (r ≡ Resting age → ⊥)
    → with hold j (Some (hold_of d m r)) i ≡ Some (hold_of c k (Resting age))
    → hold i ≡ Some (hold_of c k (Resting age))
moving_rest hold j d m r i c k age moving e =
    ⊎_elim
    (λ (here, same). absurd (moving (ap (λ (w : Hold). w.rest) (some_same (hold_of d m r) (hold_of c k (Resting age)) same))))
    (λ was. was)
    (written_rest hold j (Some (hold_of d m r)) i c k age e)

-- a carry of t has ended
pub record Ended (l : Layout) (t : Scene) (i c k : ℕ) : Type 0 where
  pub h : ℕ
  pub y : Carry
  pub is : t.carry h ≡ Some y
  pub carrier : y.carrier ≡ c
  pub step : y.step + 1 ≡ k
  pub tank : y.to ≡ i
  pub ends : y.elapsed ≡ length_of l y

-- point 4: the frame g, where the first hoists have ended their carries of t
pub record SetTurn (l : Layout) (t g : Scene) : Type 0 where
  pub carry : (h : ℕ) (y : Carry) → g.carry h ≡ Some y → t.carry h ≡ Some y
  pub rests : (i c k age : ℕ) → Rests g i c k age → (Ended l t i c k × (age ≡ 0)) ⊎ Rests t i c k age
  pub next : g.next ≡ t.next
  pub at : g.at ≡ t.at

pub set_turn : (l : Layout) (t : Scene) (h : ℕ) (g : Scene) (o : Option Carry) → SetTurn l t g → g.carry h ≡ o
    → SetTurn l t (set_down_by l h o g)
set_turn l t h g None turn has = turn
set_turn l t h g (Some y) turn has =
    let v : Option Hold = Some (hold_of y.carrier (y.step + 1) (Resting 0)) in
    cond_both (y.elapsed == length_of l y) (record g { carry = with g.carry h None; hold = with g.hold y.to v }) g (λ x. SetTurn l t x)
    (λ ends. record {
      carry = λ h' z e. turn.carry h' z (⊎_elim
          (λ here. absurd (let a = with_same g.carry h None h' here in let b = e in cc))
          (λ other. sym (with_other g.carry h None h' other) ∙ e)
          (cases_eq h h'));
      rests = λ i c k age e. ⊎_elim
          (λ (here, same).
          let two : hold_of y.carrier (y.step + 1) (Resting 0) ≡ hold_of c k (Resting age) = some_same _ _ same in
          let young : Resting 0 ≡ Resting age = ap (λ (w : Hold). w.rest) two in
          inl (
            record {
              h = h;
              y = y;
              is = turn.carry h y has;
              carrier = ap (λ (w : Hold). w.carrier) two;
              step = ap (λ (w : Hold). w.stage) two;
              tank = here;
              ends = eqb-true y.elapsed (length_of l y) ends;
            },
            let g = young in cc,
          ))
          (λ was. turn.rests i c k age was)
          (written_rest g.hold y.to v i c k age e);
      next = turn.next;
      at = turn.at;
    })
    (λ going. turn)

pub set_all : (l : Layout) (t : Scene) → SetTurn l t (each (set_down l) l.hoists t)
set_all l t =
    each_holds (λ h g. SetTurn l t g) (set_down l) l.hoists t
    (record { carry = λ h y e. e; rests = λ i c k age e. inr e; next = refl; at = refl })
    (λ h g lt turn. set_turn l t h g (g.carry h) turn refl)

-- points 5 and 6: what rests has rested, and carries and positions stay
pub record Kept (f g : Scene) : Type 0 where
  pub carry : (h : ℕ) (y : Carry) → g.carry h ≡ Some y → f.carry h ≡ Some y
  pub rests : (i c k age : ℕ) → Rests g i c k age → Rests f i c k age
  pub next : g.next ≡ f.next
  pub at : g.at ≡ f.at

pub kept_all : (f : Scene) → Kept f f
kept_all f = record { carry = λ h y e. e; rests = λ i c k age e. e; next = refl; at = refl }

pub free_kept : (l : Layout) (f g : Scene) (o : Option Carry) → Kept f g → Kept f (lift_out_by l o g)
free_kept l f g None kept = kept
free_kept l f g (Some y) kept =
    cond_both (y.elapsed == l.lift y.step) (record g { hold = with g.hold y.from None }) g (λ x. Kept f x)
    (λ lifted. record {
      carry = kept.carry;
      rests = λ i c k age e. kept.rests i c k age (cleared_rest g.hold y.from i c k age e);
      next = kept.next;
      at = kept.at;
    })
    (λ other. kept)

pub off_kept : (l : Layout) (o : Command) (f : Scene) → Kept f (taken_off l o f)
off_kept l o f =
    cond_both o.off (record f { hold = with f.hold l.unload_tank None }) f (λ x. Kept f x)
    (λ off. record { carry = λ h y e. e; rests = λ i c k age e. cleared_rest f.hold l.unload_tank i c k age e; next = refl; at = refl })
    (λ other. kept_all f)

-- point 8
low_kept : (l : Layout) (f g : Scene) (o : Option Carry) → Kept f g → Kept f (lower_in_by l o g)
low_kept l f g None kept = kept
low_kept l f g (Some y) kept =
    cond_both (lowers_now l y) (record g { hold = with g.hold y.to (Some (hold_of y.carrier (y.step + 1) Lowering)) }) g (λ x. Kept f x)
    (λ lowers. record {
      carry = kept.carry;
      rests = λ i c k age e. kept.rests i c k age (moving_rest g.hold y.to y.carrier (y.step + 1) Lowering i c k age (λ q. let g = q in cc) e);
      next = kept.next;
      at = kept.at;
    })
    (λ other. kept)

-- point 7: who is put on rests from now on
record Put (f : Scene) (c k old after : ℕ) : Type 0 where
  stage : k ≡ 0
  carrier : f.next ≡ c
  age : old ≡ 0
  next : after ≡ c + 1

put_rest : (l : Layout) (o : Command) (f : Scene) (i c k age : ℕ) → Rests (put_on l o f) i c k age
    → Put f c k age (put_on l o f).next ⊎ Rests f i c k age
put_rest l o f i c k age =
    let v : Option Hold = Some (hold_of f.next 0 (Resting 0)) in
    cond_both o.put (record f { hold = with f.hold l.load_tank v; next = f.next + 1 }) f (λ x. Rests x i c k age → Put f c k age x.next ⊎ Rests f i c k age)
    (λ put e. ⊎_elim
    (λ (here, same).
    let two : hold_of f.next 0 (Resting 0) ≡ hold_of c k (Resting age) = some_same _ _ same in
    let young : Resting 0 ≡ Resting age = ap (λ (w : Hold). w.rest) two in
    let stage : 0 ≡ k = ap (λ (w : Hold). w.stage) two in
    let carrier : f.next ≡ c = ap (λ (w : Hold). w.carrier) two in
    inl (record { stage = sym stage; carrier = carrier; age = let g = young in cc; next = ap (λ (n : ℕ). n + 1) carrier }))
    (λ was. inr was)
    (written_rest f.hold l.load_tank v i c k age e))
    (λ other e. inr e)

-- point 9: a carry that begins is of a carrier that has rested for long enough
pub record Started (l : Layout) (m : Scene) (x : Carry) : Type 0 where
  pub age : ℕ
  pub new : x.elapsed ≡ 0
  pub rests : Rests m x.from x.carrier x.step age
  pub old_enough : l.least x.step ≤ age

passed : (a b d : Bool) (p q r : Breach) (x y : Carry) → cond a (cond b (cond d (Err p) (Ok x)) (Err q)) (Err r) ≡ Ok y
    → (d ≡ false) × (x ≡ y)
passed true true false p q r x y e = (refl, let g = e in cc)
passed true true true p q r x y e = absurd (let g = e in cc)
passed true false d p q r x y e = absurd (let g = e in cc)
passed false b d p q r x y e = absurd (let g = e in cc)

started_rest : (l : Layout) (h at from to : ℕ) (f : Scene) (y : Hold) (r : Rest) (x : Carry) → f.hold from ≡ Some y
    → y.rest ≡ r
    → begin_rest l h at from to y r ≡ Ok x → Started l f x
started_rest l h at from to f y Lowering x held rest e = absurd (let g = e in cc)
started_rest l h at from to f y (Resting age) x held rest e =
    let new : Carry = record { carrier = y.carrier; step = y.stage; elapsed = 0; from = from; to = to } in
    let (old, is) = passed (nat_lt y.stage l.last) (l.serves to (y.stage + 1)) (nat_lt age (l.least y.stage))
    (Early y.carrier y.stage age (l.least y.stage)) (NoWay h to) (NoMove y.carrier y.stage) new x e in
    let rests : Rests f from y.carrier y.stage age = held ∙ ap (λ (w : Hold). Some w) (hold_is y y.carrier y.stage (Resting age) refl refl rest) in
    subst (λ (z : Carry). Started l f z) is (record { age = age; new = refl; rests = rests; old_enough = ltb-false age (l.least y.stage) old })
started_rest l h at from to f y Lifting x held rest e = absurd (let g = e in cc)

started_hold : (l : Layout) (h at from to : ℕ) (f : Scene) (o : Option Hold) (x : Carry) → f.hold from ≡ o
    → begin_hold l h at from to o ≡ Ok x → Started l f x
started_hold l h at from to f None x held e = absurd (let g = e in cc)
started_hold l h at from to f (Some y) x held e = started_rest l h at from to f y y.rest x held refl e

pub started_tank : (l : Layout) (h at to : ℕ) (o : Option ℕ) (f : Scene) (x : Carry) → begin_tank l h at to o f ≡ Ok x
    → Started l f x
started_tank l h at to None f x e = absurd (let g = e in cc)
started_tank l h at to (Some from) f x e = started_hold l h at from to f (f.hold from) x refl e

-- the frame g, where the first hoists have begun their moves from m
pub record BeginTurn (l : Layout) (m g : Scene) : Type 0 where
  pub carry : (h : ℕ) (y : Carry) → g.carry h ≡ Some y → Started l m y ⊎ (m.carry h ≡ Some y)
  pub rests : (i c k age : ℕ) → Rests g i c k age → Rests m i c k age
  pub next : g.next ≡ m.next
  pub at : g.at ≡ m.at

begun_turn : (l : Layout) (h : ℕ) (m g : Scene) (r : Result Carry Breach) → BeginTurn l m g
    → ((x : Carry) → r ≡ Ok x → Started l g x) → BeginTurn l m (carrying h r g)
begun_turn l h m g (Err b) turn new = turn
begun_turn l h m g (Ok x) turn new = record {
  carry = λ h' y e. ⊎_elim
      (λ here.
      let same : x ≡ y = let a = with_same g.carry h (Some x) h' here in let b = e in cc in
      let started = new x refl in
      inl (subst (λ (z : Carry). Started l m z) same (record {
        age = started.age;
        new = started.new;
        rests = turn.rests x.from x.carrier x.step started.age started.rests;
        old_enough = started.old_enough;
      })))
      (λ other. turn.carry h' y (sym (with_other g.carry h (Some x) h' other) ∙ e))
      (cases_eq h h');
  rests = λ i c k age e. turn.rests i c k age (moving_rest g.hold x.from x.carrier x.step Lifting i c k age (λ q. let g = q in cc) e);
  next = turn.next;
  at = turn.at;
}

begin_turn : (l : Layout) (h : ℕ) (m g : Scene) (q : Option ℕ) → BeginTurn l m g → BeginTurn l m (begin_by l h q g)
begin_turn l h m g None turn = turn
begin_turn l h m g (Some to) turn = begun_turn l h m g (begun l h to g) turn (λ x e. started_tank l h (g.at h) to (tank_among l (g.at h) l.tanks) g x e)

pub begin_all : (l : Layout) (o : Command) (m : Scene) → BeginTurn l m (each (begin_move l o) l.hoists m)
begin_all l o m =
    each_holds (λ h g. BeginTurn l m g) (begin_move l o) l.hoists m
    (record { carry = λ h y e. inr e; rests = λ i c k age e. e; next = refl; at = refl })
    (λ h g lt turn. begin_turn l h m g (o.begin h) turn)

-- who rests once a tick has passed is a tick older
aged_rest : (r : Rest) (age : ℕ) → older r ≡ Resting age → (a : ℕ) × (r ≡ Resting a) × (age ≡ suc a)
aged_rest Lowering age e = absurd (let g = e in cc)
aged_rest (Resting a) age e =
    let q : a + 1 ≡ age = let g = e in cc in
    (a, refl, omega arith)
aged_rest Lifting age e = absurd (let g = e in cc)

pub rested : (l : Layout) (o : Command) (f : Scene) (i c k age : ℕ) → Rests (after_tick l o f) i c k age
    → (a : ℕ) × Rests f i c k a × (age ≡ suc a)
rested l o f i c k age e =
    let g = aged_from (f.hold i) (hold_of c k (Resting age)) e in
    let (a, resting, older) = aged_rest g.x.rest age (ap (λ (w : Hold). w.rest) g.is) in
    (a, g.was ∙ ap (λ (w : Hold). Some w) (hold_is g.x c k (Resting a) (ap (λ (w : Hold). w.carrier) g.is) (ap (λ (w : Hold). w.stage) g.is) resting), older)

pub freed : (l : Layout) (o : Command) (f : Scene)
    → Kept (each (set_down l) l.hoists (after_tick l o f)) (after_free l o f)
freed l o f =
    let s : Scene = each (set_down l) l.hoists (after_tick l o f) in
    each_holds (λ h g. Kept s g) (lift_out l) l.hoists s (kept_all s) (λ h g lt kept. free_kept l s g (g.carry h) kept)

pub lowered : (l : Layout) (o : Command) (f : Scene) → Kept (after_put l o f) (after_lowering l o f)
lowered l o f =
    let s : Scene = after_put l o f in
    each_holds (λ h g. Kept s g) (lower_in l) l.hoists s (kept_all s) (λ h g lt kept. low_kept l s g (g.carry h) kept)

-- who rests before point 6 has been set down at this tick, or rested before it
pub came_free : (l : Layout) (o : Command) (f g : Scene) (i c k age : ℕ) → Rests (after_free l o f) i c k age
    → Comes l f g i c k age
came_free l o f g i c k age e =
    ⊎_elim
    (λ (ended, young).
    let was = grown_from (f.carry ended.h) ended.y ended.is in
    let set : SetsDown l f i c k = record {
      h = ended.h;
      y = was.x;
      is = was.was;
      carrier = ap (λ (z : Carry). z.carrier) was.is ∙ ended.carrier;
      step = ap (λ (z : Carry). z.step + 1) was.is ∙ ended.step;
      tank = ap (λ (z : Carry). z.to) was.is ∙ ended.tank;
      ends = ap (λ (z : Carry). z.elapsed) was.is ∙ ended.ends ∙ sym (ap (length_of l) was.is);
    } in
    subst (λ (n : ℕ). Comes l f g i c k n) (sym young) (inl set))
    (λ old.
    let (a, rests, older) = rested l o f i c k age old in
    subst (λ (n : ℕ). Comes l f g i c k n) (sym older) rests)
    ((set_all l (after_tick l o f)).rests i c k age ((freed l o f).rests i c k age e))

-- who rests before point 9 has come to rest at this tick, or rested before it
pub came : (l : Layout) (o : Command) (f : Scene) (i c k age : ℕ) → Rests (after_lowering l o f) i c k age
    → Comes l f (after_begin l o f) i c k age
came l o f i c k age e =
    let g : Scene = after_begin l o f in
    let low = lowered l o f in
    let off = off_kept l o (after_free l o f) in
    let next : g.next ≡ (after_put l o f).next = (begin_all l o (after_lowering l o f)).next ∙ low.next in
    ⊎_elim
    (λ put.
    let is : PutsOn f g c k = record {
      stage = put.stage;
      carrier = sym (set_all l (after_tick l o f)).next ∙ sym (freed l o f).next ∙ sym off.next ∙ put.carrier;
      next = next ∙ put.next;
    } in
    subst (λ (n : ℕ). Comes l f g i c k n) (sym put.age) (inr is))
    (λ was. came_free l o f g i c k age (off.rests i c k age was))
    (put_rest l o (after_off l o f) i c k age (low.rests i c k age e))
