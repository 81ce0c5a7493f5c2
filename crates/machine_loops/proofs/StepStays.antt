-- Who is in the line stays in it through a step that is made, unless it is taken off.
use Rattle.std.proofs.Common.{◌≡◌, ℕ, zero, suc, ◌+◌, ◌≤◌, ◌<◌, Bool, Option, Some, None, Result, Ok, Err, ◌⊎◌, inl, inr, ⊎_elim, sym, refl, ap, subst, ◌∙◌, arith}
use Rattle.std.specs.Prelude.{true, false, cond, ◌==◌, nat_lt}
use Rattle.std.specs.Option.{option_map}
use Rattle.std.proofs.lemmas.Bool.{cases_eq, eqb-true, eqb-false, ltb-false, cond_both}
use Rattle.tick_machine.specs.declared.breach.Breach.{Breach}
use Rattle.tick_machine.specs.declared.breach.Breach.TheVariants.{Early, NoCarrier}
use Rattle.tick_machine.specs.declared.frame.Carry.{Carry}
use Rattle.tick_machine.specs.declared.frame.Hold.{Hold}
use Rattle.tick_machine.specs.declared.frame.Rest.{Rest}
use Rattle.tick_machine.specs.declared.frame.Rest.TheVariants.{Lowering, Resting, Lifting}
use Rattle.tick_machine.specs.Layout.{Layout, IsLayout}
use Rattle.tick_machine.specs.Scene.{Scene, Command, with, hold_of}
use Rattle.tick_machine.specs.Points.{length_of, grown, aged_hold, busy, set_down, set_down_by, lift_out, lift_out_by, no_off_by, held, lowers_now, no_lowering, no_lowering_by, lower_in, lower_in_by, tank_among, begun, carrying, begin_by, begin_move}
use Rattle.tick_machine.specs.Step.{each, first, after_tick, after_free, after_off, after_put, after_lowering, after_begin}
use Rattle.tick_machine.specs.Rules.{KeepsRules}
use Rattle.tick_machine.proofs.Writes.{with_same, with_other}
use Rattle.tick_machine.proofs.Passes.{or_else_parts, first_pass}
use Rattle.tick_machine.proofs.PartwayTick.{grown_from}
use Rattle.tick_machine.proofs.PartwayStep as partway
use Rattle.machine_loops.specs.Loops.{IsCarriedIn}
use Rattle.machine_loops.proofs.StepBack.{Rests, Comes, Kept, SetTurn, Started, some_same, set_turn, set_all, kept_all, free_kept, freed, rested, started_tank, came_free}
use Rattle.machine_loops.proofs.StepOn.{IsIn, Tests, carry_ends, carried_before, carried_at_first}

-- c is taken off at the end of the stage `last`
pub record TakenOff (l : Layout) (f g : Scene) (c : ℕ) : Type 0 where
  pub i : ℕ
  pub age : ℕ
  pub comes : Comes l f g i c l.last age
  pub old_enough : l.least l.last ≤ age

-- two values of a tank that differ in how it is held
apart : (c d k m : ℕ) (r s : Rest) (o : Option Hold) → (r ≡ s → ⊥) → o ≡ Some (hold_of c k r) → o ≡ Some (hold_of d m s)
    → ⊥
apart c d k m r s o differ a b = differ (ap (λ (w : Hold). w.rest) (some_same (hold_of c k r) (hold_of d m s) (sym a ∙ b)))

-- the tank where a carry ends was lowered into, and the one that a carrier is lifted out of was held until now
landing : (l : Layout) (o : Command) (f : Scene) (h : ℕ) (y : Carry) → IsLayout l → KeepsRules l f
    → (after_tick l o f).carry h ≡ Some y → y.elapsed ≡ length_of l y
    → f.hold y.to ≡ Some (hold_of y.carrier (y.step + 1) Lowering)
landing l o f h y layout rules is ends =
    let was = grown_from (f.carry h) y is in
    let x = was.x in
    let r = rules.carries h x was.was in
    let e : x.elapsed + 1 ≡ y.elapsed = ap (λ (z : Carry). z.elapsed) was.is in
    let d : length_of l x ≡ length_of l y = ap (length_of l) was.is in
    let low = (layout.lower x.step r.step).0 in
    subst (λ (z : Carry). f.hold z.to ≡ Some (hold_of z.carrier (z.step + 1) Lowering)) was.is (r.lowering.1 (omega arith))

leaving : (l : Layout) (o : Command) (f : Scene) (h : ℕ) (y : Carry) → KeepsRules l f
    → (after_tick l o f).carry h ≡ Some y
    → y.elapsed ≡ l.lift y.step → f.hold y.from ≡ Some (hold_of y.carrier y.step Lifting)
leaving l o f h y rules is lifted =
    let was = grown_from (f.carry h) y is in
    let x = was.x in
    let r = rules.carries h x was.was in
    let e : x.elapsed + 1 ≡ y.elapsed = ap (λ (z : Carry). z.elapsed) was.is in
    let d : l.lift x.step ≡ l.lift y.step = ap (λ (z : Carry). l.lift z.step) was.is in
    subst (λ (z : Carry). f.hold z.from ≡ Some (hold_of z.carrier z.step Lifting)) was.is (r.lifting.1 (omega arith))

one_lands : (l : Layout) (o : Command) (f : Scene) (h h' : ℕ) (y y' : Carry) → IsLayout l → KeepsRules l f
    → (after_tick l o f).carry h ≡ Some y → (after_tick l o f).carry h' ≡ Some y'
    → y.elapsed ≡ length_of l y → y'.elapsed ≡ length_of l y' → y'.to ≡ y.to → h ≡ h'
one_lands l o f h h' y y' layout rules is is' ends ends' same =
    let a = landing l o f h y layout rules is ends in
    let b = landing l o f h' y' layout rules is' ends' in
    let carrier : y'.carrier ≡ y.carrier = ap (λ (w : Hold). w.carrier)
    (some_same (hold_of y'.carrier (y'.step + 1) Lowering) (hold_of y.carrier (y.step + 1) Lowering)
    (sym b ∙ ap f.hold same ∙ a)) in
    let was = grown_from (f.carry h) y is in
    let was' = grown_from (f.carry h') y' is' in
    rules.one_hoist h h' was.x was'.x was.was was'.was (ap (λ (z : Carry). z.carrier) was.is ∙ sym carrier ∙ sym (ap (λ (z : Carry). z.carrier) was'.is))

-- no hoist from turn n on sets a carrier down in tank i
abbrev Spared : Layout → Scene → ℕ → ℕ → Type 0
Spared l t n i = (h : ℕ) (y : Carry) → n ≤ h → t.carry h ≡ Some y → y.elapsed ≡ length_of l y → y.to ≡ i → ⊥

abbrev StaysSet : Layout → Scene → ℕ → Scene → ℕ → Type 0
StaysSet l t n s c = IsCarriedIn s c ⊎ ((i : ℕ) × (k : ℕ) × (age : ℕ) × Rests s i c k age × Spared l t n i)

record SetIn (l : Layout) (t : Scene) (n : ℕ) (s : Scene) (c : ℕ) : Type 0 where
  back : SetTurn l t s
  there : StaysSet l t n s c

-- point 4
later_turn : (l : Layout) (t : Scene) (n : ℕ) (s : Scene) (c : ℕ) → StaysSet l t n s c → StaysSet l t (n + 1) s c
later_turn l t n s c there =
    ⊎_elim (λ carried. inl carried) (λ (i, k, age, rests, spared). inr (i, k, age, rests, λ h y le. spared h y (omega arith))) there

set_stays : (l : Layout) (o : Command) (f : Scene) (n : ℕ) (s : Scene) (c : ℕ) (q : Option Carry) → IsLayout l
    → KeepsRules l f
    → SetIn l (after_tick l o f) n s c → s.carry n ≡ q → StaysSet l (after_tick l o f) (n + 1) (set_down_by l n q s) c
set_stays l o f n s c None layout rules stays has = later_turn l (after_tick l o f) n s c stays.there
set_stays l o f n s c (Some x) layout rules stays has =
    let t : Scene = after_tick l o f in
    let v : Option Hold = Some (hold_of x.carrier (x.step + 1) (Resting 0)) in
    let is : t.carry n ≡ Some x = stays.back.carry n x has in
    cond_both (x.elapsed == length_of l x) (record s { carry = with s.carry n None; hold = with s.hold x.to v }) s (λ z. StaysSet l t (n + 1) z c)
    (λ b.
    let ends : x.elapsed ≡ length_of l x = eqb-true x.elapsed (length_of l x) b in
    ⊎_elim
    (λ (h, y, carries, same). ⊎_elim
    (λ here.
    let one : x ≡ y = let a = ap s.carry here in let b = carries in cc in
    let carrier : x.carrier ≡ c = ap (λ (z : Carry). z.carrier) one ∙ same in
    inr (
      x.to,
      x.step + 1,
      0,
      with_same s.hold x.to v x.to refl ∙ ap (λ (d : ℕ). Some (hold_of d (x.step + 1) (Resting 0))) carrier,
      λ h' y' le is' ends' to'. let here : n ≡ h' = one_lands l o f n h' x y' layout rules is is' ends ends' to' in absurd (omega arith),
    ))
    (λ other. inl (h, y, with_other s.carry n None h other ∙ carries, same))
    (cases_eq n h))
    (λ (i, k, age, rests, spared). inr (
      i,
      k,
      age,
      with_other s.hold x.to v i
          (λ here. spared n x (omega arith) is ends here) ∙ rests,
      λ h y le. spared h y (omega arith),
    ))
    stays.there)
    (λ going. later_turn l t n s c stays.there)

set_in : (l : Layout) (o : Command) (f : Scene) (c : ℕ) → IsLayout l → KeepsRules l f → IsIn f c
    → SetIn l (after_tick l o f) l.hoists (each (set_down l) l.hoists (after_tick l o f)) c
set_in l o f c layout rules there =
    let t : Scene = after_tick l o f in
    let start : StaysSet l t 0 t c =
    ⊎_elim
    (λ (h, y, is, same). inl (h, grown y, ap (option_map grown) is, same))
    (λ (i, k, age, rests). inr (
      i,
      k,
      age + 1,
      ap (option_map aged_hold) rests,
      λ h y le is ends to.
          apart y.carrier c (y.step + 1) k Lowering (Resting age) (f.hold i) (λ e. let g = e in cc)
          (ap f.hold (sym to) ∙ landing l o f h y layout rules is ends) rests,
    ))
    there in
    partway.each_holds (λ n s. SetIn l t n s c) (set_down l) l.hoists t
    (record { back = record { carry = λ h y e. e; rests = λ i k d age e. inr e; next = refl; at = refl }; there = start })
    (λ n s lt stays. record {
      back = set_turn l t n s (s.carry n) stays.back refl;
      there = set_stays l o f n s c (s.carry n) layout rules stays refl;
    })

-- point 5
record FreeIn (s g : Scene) (c : ℕ) : Type 0 where
  kept : Kept s g
  there : IsIn g c

-- who rests once carries have ended does so in no tank that a carrier is lifted out of
stays_put : (l : Layout) (o : Command) (f : Scene) (h : ℕ) (x : Carry) (i c k age : ℕ) → IsLayout l → KeepsRules l f
    → (after_tick l o f).carry h ≡ Some x → x.elapsed ≡ l.lift x.step → x.from ≡ i
    → Rests (each (set_down l) l.hoists (after_tick l o f)) i c k age → ⊥
stays_put l o f h x i c k age layout rules is lifted from rests =
    let was : f.hold i ≡ Some (hold_of x.carrier x.step Lifting) = ap f.hold (sym from) ∙ leaving l o f h x rules is lifted in
    ⊎_elim
    (λ (ended, young).
    apart x.carrier ended.y.carrier x.step (ended.y.step + 1) Lifting Lowering (f.hold i) (λ e. let g = e in cc) was
    (ap f.hold (sym ended.tank) ∙ landing l o f ended.h ended.y layout rules ended.is ended.ends))
    (λ old.
    let (a, rested, older) = rested l o f i c k age old in
    apart x.carrier c x.step k Lifting (Resting a) (f.hold i) (λ e. let g = e in cc) was rested)
    ((set_all l (after_tick l o f)).rests i c k age rests)

free_stays : (l : Layout) (o : Command) (f : Scene) (n : ℕ) (g : Scene) (c : ℕ) (q : Option Carry) → IsLayout l
    → KeepsRules l f
    → FreeIn (each (set_down l) l.hoists (after_tick l o f)) g c → g.carry n ≡ q → IsIn (lift_out_by l q g) c
free_stays l o f n g c None layout rules stays has = stays.there
free_stays l o f n g c (Some x) layout rules stays has =
    let is : (after_tick l o f).carry n ≡ Some x = (set_all l (after_tick l o f)).carry n x (stays.kept.carry n x has) in
    cond_both (x.elapsed == l.lift x.step) (record g { hold = with g.hold x.from None }) g (λ z. IsIn z c)
    (λ b. ⊎_elim
    (λ carried. inl carried)
    (λ (i, k, age, rests). inr (
      i,
      k,
      age,
      with_other g.hold x.from None i (λ here.
          stays_put l o f n x i c k age layout rules is (eqb-true x.elapsed (l.lift x.step) b) here (stays.kept.rests i c k age rests)) ∙ rests,
    ))
    stays.there)
    (λ other. stays.there)

free_in : (l : Layout) (o : Command) (f : Scene) (c : ℕ) → IsLayout l → KeepsRules l f → IsIn f c
    → IsIn (after_free l o f) c
free_in l o f c layout rules there =
    let s : Scene = each (set_down l) l.hoists (after_tick l o f) in
    let start : IsIn s c = ⊎_elim (λ carried. inl carried) (λ (i, k, age, rests, spared). inr (i, k, age, rests)) (set_in l o f c layout rules there).there in
    (partway.each_holds (λ n g. FreeIn s g c) (lift_out l) l.hoists s (record { kept = kept_all s; there = start })
    (λ n g lt stays. record { kept = free_kept l s g (g.carry n) stays.kept; there = free_stays l o f n g c (g.carry n) layout rules stays refl })).there

-- point 6
off_passed : (a b : Bool) (p q : Breach) → cond a (cond b (Some p) None) (Some q) ≡ None → (a ≡ true) × (b ≡ false)
off_passed true false p q e = (refl, refl)
off_passed true true p q e = absurd (let g = e in cc)
off_passed false b p q e = absurd (let g = e in cc)

off_in : (l : Layout) (f g s : Scene) (b : Bool) (c : ℕ) → ((i k age : ℕ) → Rests s i c k age → Comes l f g i c k age)
    → IsIn s c
    → cond b (no_off_by l (s.hold l.unload_tank)) None ≡ None
    → TakenOff l f g c ⊎ IsIn (cond b (record s { hold = with s.hold l.unload_tank None }) s) c
off_in l f g s false c came there none = inr there
off_in l f g s true c came there none =
    ⊎_elim
    (λ carried. inr (inl carried))
    (λ (i, k, age, rests). ⊎_elim
    (λ here.
    let held : s.hold l.unload_tank ≡ Some (hold_of c k (Resting age)) = ap s.hold here ∙ rests in
    let (a, b) = off_passed (k == l.last) (nat_lt age (l.least l.last)) (Early c k age (l.least l.last))
    (NoCarrier l.unload_tank) (ap (no_off_by l) (sym held) ∙ none) in
    let last : k ≡ l.last = eqb-true k l.last a in
    inl (record {
      i = i;
      age = age;
      comes = subst (λ (j : ℕ). Comes l f g i c j age) last (came i k age rests);
      old_enough = ltb-false age (l.least l.last) b;
    }))
    (λ other. inr (inr (i, k, age, with_other s.hold l.unload_tank None i other ∙ rests)))
    (cases_eq l.unload_tank i))
    there

-- a tank that must be free
free_tank : (i : ℕ) (o : Option Hold) → held i o ≡ None → o ≡ None
free_tank i None none = refl
free_tank i (Some x) none = absurd (let g = none in cc)

-- point 7
put_in : (l : Layout) (s : Scene) (b : Bool) (c : ℕ) → IsIn s c
    → cond b (held l.load_tank (s.hold l.load_tank)) None ≡ None
    → IsIn (cond b (record s { hold = with s.hold l.load_tank (Some (hold_of s.next 0 (Resting 0))); next = s.next + 1 }) s) c
put_in l s false c there none = there
put_in l s true c there none =
    let v : Option Hold = Some (hold_of s.next 0 (Resting 0)) in
    let empty = free_tank l.load_tank (s.hold l.load_tank) none in
    ⊎_elim
    (λ carried. inl carried)
    (λ (i, k, age, rests). inr (i, k, age, with_other s.hold l.load_tank v i (λ here. let a = ap s.hold here in let b = empty in let d = rests in cc) ∙ rests))
    there

-- point 8
low_if : (l : Layout) (s : Scene) (c : ℕ) (x : Carry) (b : Bool) → IsIn s c
    → cond b (held x.to (s.hold x.to)) None ≡ None
    → IsIn (cond b (record s { hold = with s.hold x.to (Some (hold_of x.carrier (x.step + 1) Lowering)) }) s) c
low_if l s c x false there none = there
low_if l s c x true there none =
    let v : Option Hold = Some (hold_of x.carrier (x.step + 1) Lowering) in
    let empty = free_tank x.to (s.hold x.to) none in
    ⊎_elim
    (λ carried. inl carried)
    (λ (i, k, age, rests). inr (i, k, age, with_other s.hold x.to v i (λ here. let a = ap s.hold here in let b = empty in let d = rests in cc) ∙ rests))
    there

low_stays : (l : Layout) (s : Scene) (c : ℕ) (q : Option Carry) → IsIn s c → no_lowering_by l q s ≡ None
    → IsIn (lower_in_by l q s) c
low_stays l s c None there none = there
low_stays l s c (Some x) there none = low_if l s c x (lowers_now l x) there none

low_in : (l : Layout) (n : ℕ) (s : Scene) (c : ℕ) → IsIn s c
    → first n (λ h. no_lowering l h (each (lower_in l) h s)) ≡ None
    → IsIn (each (lower_in l) n s) c
low_in l zero s c there none = there
low_in l (suc n) s c there none =
    let p = or_else_parts (first n (λ h. no_lowering l h (each (lower_in l) h s))) (no_lowering l n (each (lower_in l) n s)) none in
    low_stays l (each (lower_in l) n s) c ((each (lower_in l) n s).carry n) (low_in l n s c there p.0) p.1

-- point 9: the hoists from turn n on still carry what they carried
record BeginIn (n : ℕ) (m g : Scene) (c : ℕ) : Type 0 where
  carry : (h : ℕ) (y : Carry) → n ≤ h → g.carry h ≡ Some y → m.carry h ≡ Some y
  there : IsIn g c

begun_in : (l : Layout) (n : ℕ) (m g : Scene) (c : ℕ) (r : Result Carry Breach) → ((y : Carry) → m.carry n ≡ Some y → ⊥)
    → BeginIn n m g c → ((x : Carry) → r ≡ Ok x → Started l g x) → BeginIn (n + 1) m (carrying n r g) c
begun_in l n m g c (Err b) idle stays new = record { carry = λ h y le e. stays.carry h y (omega arith) e; there = stays.there }
begun_in l n m g c (Ok x) idle stays new =
    let started = new x refl in
    let v : Option Hold = Some (hold_of x.carrier x.step Lifting) in
    record {
      carry = λ h y le e. stays.carry h y (omega arith) (sym (with_other g.carry n (Some x) h (omega arith)) ∙ e);
      there = ⊎_elim
          (λ (h, y, is, same). inl (h, y, with_other g.carry n (Some x) h (λ here. idle y (stays.carry n y (omega arith) (ap g.carry here ∙ is))) ∙ is, same))
          (λ (i, k, age, rests). ⊎_elim
          (λ here. inl (
            n,
            x,
            with_same g.carry n (Some x) n refl,
            ap (λ (w : Hold). w.carrier) (some_same (hold_of x.carrier x.step (Resting started.age))
                (hold_of c k (Resting age)) (sym started.rests ∙ ap g.hold here ∙ rests)),
          ))
          (λ other. inr (i, k, age, with_other g.hold x.from v i other ∙ rests))
          (cases_eq x.from i))
          stays.there;
    }

begin_stays : (l : Layout) (o : Command) (f : Scene) (n : ℕ) (m g : Scene) (c : ℕ) (q : Option ℕ)
    → ((to : ℕ) → q ≡ Some to → (y : Carry) → m.carry n ≡ Some y → ⊥) → BeginIn n m g c
    → BeginIn (n + 1) m (begin_by l n q g) c
begin_stays l o f n m g c None idle stays = record { carry = λ h y le e. stays.carry h y (omega arith) e; there = stays.there }
begin_stays l o f n m g c (Some to) idle stays =
    begun_in l n m g c (begun l n to g) (idle to refl) stays (λ x e. started_tank l n (g.at n) to (tank_among l (g.at n) l.tanks) g x e)

-- no carry of the first hoists that ends is left after point 4
abbrev NoneLeft : Layout → ℕ → Scene → Type 0
NoneLeft l n g = (h : ℕ) (y : Carry) → h < n → g.carry h ≡ Some y → y.elapsed ≡ length_of l y → ⊥

none_left : (l : Layout) (n : ℕ) (g : Scene) (q : Option Carry) → NoneLeft l n g → g.carry n ≡ q
    → NoneLeft l (n + 1) (set_down_by l n q g)
none_left l n g None none has = λ h y lt e ends.
    ⊎_elim
    (λ here. let a = ap g.carry here in let b = has in let d = e in absurd (let two = sym b ∙ a ∙ d in cc))
    (λ other. none h y (omega arith) e ends)
    (cases_eq n h)
none_left l n g (Some x) none has =
    cond_both (x.elapsed == length_of l x) (record g {
      carry = with g.carry n None;
      hold = with g.hold x.to (Some (hold_of x.carrier (x.step + 1) (Resting 0)));
    }) g (λ s. NoneLeft l (n + 1) s)
    (λ b h y lt e ends. ⊎_elim
    (λ here. absurd (let a = with_same g.carry n None h here in let d = e in cc))
    (λ other. none h y (omega arith) (sym (with_other g.carry n None h other) ∙ e) ends)
    (cases_eq n h))
    (λ b h y lt e ends. ⊎_elim
    (λ here.
    let one : x ≡ y = some_same x y (sym has ∙ ap g.carry here ∙ e) in
    eqb-false x.elapsed (length_of l x) b (ap (λ (z : Carry). z.elapsed) one ∙ ends ∙ sym (ap (length_of l) one)))
    (λ other. none h y (omega arith) e ends)
    (cases_eq n h))

-- a hoist that is ordered to begin carries nothing by then
is_idle : (l : Layout) (o : Command) (f : Scene) (n to : ℕ) (y : Carry) → IsLayout l → KeepsRules l f
    → busy l o f n ≡ None
    → n < l.hoists → o.begin n ≡ Some to → (after_lowering l o f).carry n ≡ Some y → ⊥
is_idle l o f n to y layout rules free there order has =
    let late = carried_before l o f n y has in
    let was = grown_from (f.carry n) y (carried_at_first l o f n y late) in
    let ends : was.x.elapsed + 1 ≡ length_of l was.x = carry_ends l o f n to was.x free order was.was in
    let e : was.x.elapsed + 1 ≡ y.elapsed = ap (λ (z : Carry). z.elapsed) was.is in
    let d : length_of l was.x ≡ length_of l y = ap (length_of l) was.is in
    let s : Scene = each (set_down l) l.hoists (after_tick l o f) in
    let none : NoneLeft l l.hoists s = partway.each_holds (λ h g. NoneLeft l h g) (set_down l) l.hoists
    (after_tick l o f) (λ h y lt. absurd (omega arith)) (λ h g lt none. none_left l h g (g.carry h) none refl) in
    none n y there ((freed l o f).carry n y late) (omega arith)

begin_in : (l : Layout) (o : Command) (f : Scene) (c : ℕ) → IsLayout l → KeepsRules l f
    → first l.hoists (busy l o f) ≡ None
    → IsIn (after_lowering l o f) c → IsIn (after_begin l o f) c
begin_in l o f c layout rules free there =
    let m : Scene = after_lowering l o f in
    (partway.each_holds (λ n g. BeginIn n m g c) (begin_move l o) l.hoists m (record { carry = λ h y le e. e; there = there })
    (λ n g lt stays. begin_stays l o f n m g c (o.begin n) (λ to order y has. is_idle l o f n to y layout rules
    (first_pass l.hoists (busy l o f) n free lt) lt order has) stays)).there

-- who is in the line before point 8 is in it at the end
ends_in : (l : Layout) (o : Command) (f g : Scene) (c : ℕ) → IsLayout l → KeepsRules l f → Tests l o f g
    → IsIn (after_put l o f) c → IsIn (after_begin l o f) c
ends_in l o f g c layout rules tests there = begin_in l o f c layout rules tests.busy (low_in l l.hoists (after_put l o f) c there tests.low)

pub stays_in : (l : Layout) (o : Command) (f g : Scene) (c : ℕ) → IsLayout l → KeepsRules l f → Tests l o f g → IsIn f c
    → TakenOff l f (after_begin l o f) c ⊎ IsIn (after_begin l o f) c
stays_in l o f g c layout rules tests there =
    let s : Scene = after_free l o f in
    let end : Scene = after_begin l o f in
    ⊎_elim
    (λ off. inl off)
    (λ stays. inr (ends_in l o f g c layout rules tests (put_in l (after_off l o f) o.put c stays tests.put)))
    (off_in l f end s o.off c (λ i k age rests. came_free l o f end i c k age rests) (free_in l o f c layout rules there) tests.off)

-- who is put on is in the line at the end of the step
put_rests : (l : Layout) (s : Scene) (b : Bool) → (cond b (record s {
  hold = with s.hold l.load_tank
      (Some (hold_of s.next 0 (Resting 0)));
  next = s.next + 1;
}) s).next ≡ s.next + 1
    → IsIn (cond b (record s { hold = with s.hold l.load_tank (Some (hold_of s.next 0 (Resting 0))); next = s.next + 1 }) s) s.next
put_rests l s true next = inr (l.load_tank, 0, 0, with_same s.hold l.load_tank (Some (hold_of s.next 0 (Resting 0))) l.load_tank refl)
put_rests l s false next = absurd (omega arith)

pub put_in_line : (l : Layout) (o : Command) (f g : Scene) → IsLayout l → KeepsRules l f → Tests l o f g
    → (after_off l o f).next ≡ f.next → (after_put l o f).next ≡ f.next + 1 → IsIn (after_begin l o f) f.next
put_in_line l o f g layout rules tests same next =
    let rests = put_rests l (after_off l o f) o.put (next ∙ ap (λ (n : ℕ). n + 1) (sym same)) in
    ends_in l o f g f.next layout rules tests (subst (λ (n : ℕ). IsIn (after_put l o f) n) same rests)
