-- The events of a step are those that the plan has at the tick.
use Rattle.std.proofs.Common.{◌≡◌, ℕ, ◌+◌, ◌-◌, ◌<◌, Option, Some, None, ⊎_elim, sym, refl, ap, ◌∙◌, arith}
use Rattle.std.specs.Prelude.{Bool, true, false, cond, ◌==◌, ◌&&◌, map}
use Rattle.std.specs.Option.{option_map}
use Rattle.std.proofs.lemmas.Bool.{cases_order, eq-eqb, eqb-true, and_parts, and_from}
use Rattle.tick_machine.specs.declared.frame.Carry.{Carry}
use Rattle.tick_machine.specs.declared.frame.Hold.{Hold}
use Rattle.tick_machine.specs.Layout.{Layout, move_ticks}
use Rattle.tick_machine.specs.Scene.{Scene, Command}
use Rattle.tick_machine.specs.Points.{length_of}
use Rattle.startup_rundown.proofs.Plan.{Plan, IsMove, IsPlan, Orders}
use Rattle.tick_machine.specs.declared.event.What.TheVariants.{Set, Off, Put, Begin}
use Rattle.tick_machine.specs.Step.{after_tick, after_free}
use Rattle.tick_machine.specs.Events.{set_of, off_of, put_of, begin_of, whats_of, events_of, at_tick}
use Rattle.startup_rundown.proofs.PlanLog.{set_at, off_at, put_at, begin_at, log_at, events_at}
use Rattle.startup_rundown.proofs.Shown.{Shows, ShowsNext, carry_of}
use Rattle.startup_rundown.proofs.Ticks.{clock, carry_order}
use Rattle.startup_rundown.proofs.OffPut.{unloads}
use Rattle.startup_rundown.proofs.Passing.{whole}
use Rattle.startup_rundown.proofs.Picks.{pick_none, pick_is, pick_move_none, pick_move_is, collect_same}

-- what is set down at the tick is carried, and ends
sets : (l : Layout) (s : Plan) (t h c k : ℕ) (m : Scene) → IsPlan l s → Shows s (clock t 0 0 0 0) m → IsMove s c k
    → s.lifter c k ≡ h → s.rest c (k + 1) ≡ t
    → (m.carry h ≡ Some (carry_of s t c k)) × (t - s.lift c k ≡ length_of l (carry_of s t c k))
sets l s t h c k m plan shows v by at =
    let order = carry_order l s c k plan v in
    (ap m.carry (sym by) ∙ shows.carries.carried c k v (omega arith, omega arith), omega (arith, (plan.moves c k v).lasts))

hits : (s : Plan) (t h c k : ℕ) → ((s.lifter c k == h) && (s.rest c (k + 1) == t)) ≡ true
    → (s.lifter c k ≡ h) × (s.rest c (k + 1) ≡ t)
hits s t h c k e = let p = and_parts (s.lifter c k == h) (s.rest c (k + 1) == t) e in (eqb-true (s.lifter c k) h p.0, eqb-true (s.rest c (k + 1)) t p.1)

set_if : (l : Layout) (s : Plan) (t h : ℕ) (m : Scene) (x : Carry) (b : Bool) → IsPlan l s → Shows s (clock t 0 0 0 0) m
    → m.carry h ≡ Some x → (x.elapsed == length_of l x) ≡ b
    → cond b (Some (Set x.carrier (x.step + 1))) None ≡ set_at s t h
set_if l s t h m x false plan shows has test =
    sym (pick_move_none s.carriers s.last (λ c k. (s.lifter c k == h) && (s.rest c (k + 1) == t)) (λ c k. Set c (k + 1)) (λ c k v e.
    let p = hits s t h c k e in
    let g = sets l s t h c k m plan shows v p.0 p.1 in
    let same : x ≡ carry_of s t c k = let a = g.0 in cc in
    let yes : (x.elapsed == length_of l x) ≡ true = eq-eqb x.elapsed (length_of l x) (ap (λ (y : Carry). y.elapsed) same ∙ g.1 ∙ sym (ap (length_of l) same)) in
    cc))
set_if l s t h m x true plan shows has test =
    let g = shows.carries.carries h x has in
    let ends : x.elapsed ≡ length_of l x = eqb-true x.elapsed (length_of l x) test in
    let e : x.elapsed ≡ t - s.lift x.carrier x.step = ap (λ (y : Carry). y.elapsed) g.3 in
    let long : length_of l x ≡ move_ticks l x.step (s.tank x.carrier x.step) (s.tank x.carrier (x.step + 1)) = ap (length_of l) g.3 in
    let at : s.rest x.carrier (x.step + 1) ≡ t = omega (arith, (plan.moves x.carrier x.step g.0).lasts, g.2.0) in
    sym (pick_move_is s.carriers s.last x.carrier x.step (λ c k. (s.lifter c k == h) && (s.rest c (k + 1) == t)) (λ c k. Set c (k + 1)) g.0
    (and_from (s.lifter x.carrier x.step == h) (s.rest x.carrier (x.step + 1) == t)
    (eq-eqb (s.lifter x.carrier x.step) h g.1) (eq-eqb (s.rest x.carrier (x.step + 1)) t at))
    (λ d j v q.
    let p = hits s t h d j q in
    let other = sets l s t h d j m plan shows v p.0 p.1 in
    let same : x ≡ carry_of s t d j = let a = other.0 in cc in
    (sym (ap (λ (y : Carry). y.carrier) same), sym (ap (λ (y : Carry). y.step) same))))

set_slot : (l : Layout) (s : Plan) (t h : ℕ) (m : Scene) (o : Option Carry) → IsPlan l s → Shows s (clock t 0 0 0 0) m
    → m.carry h ≡ o → set_of l o ≡ set_at s t h
set_slot l s t h m None plan shows has =
    sym (pick_move_none s.carriers s.last (λ c k. (s.lifter c k == h) && (s.rest c (k + 1) == t)) (λ c k. Set c (k + 1)) (λ c k v e.
    let p = hits s t h c k e in
    let g = sets l s t h c k m plan shows v p.0 p.1 in
    let a = g.0 in
    cc))
set_slot l s t h m (Some x) plan shows has = set_if l s t h m x (x.elapsed == length_of l x) plan shows has refl

-- who is taken off at the tick holds the unload
off_holder : (l : Layout) (s : Plan) (t c : ℕ) (m : Scene) → IsPlan l s → Shows s (clock t l.hoists l.hoists 0 0) m
    → c < s.carriers → s.leave c s.last ≡ t
    → option_map (λ (y : Hold). y.carrier) (m.hold l.unload_tank) ≡ Some c
off_holder l s t c m plan shows v at = ap (option_map (λ (y : Hold). y.carrier)) (unloads l s t c m plan shows v at).0

off_named : (x : Option Hold) (c : ℕ) → option_map (λ (y : Hold). y.carrier) x ≡ Some c
    → option_map (λ (y : Hold). Off y.carrier) x ≡ Some (Off c)
off_named None c e = absurd (let g = e in cc)
off_named (Some y) c e = let g : y.carrier ≡ c = cc in ap (λ (n : ℕ). Some (Off n)) g

off_slot : (l : Layout) (s : Plan) (t : ℕ) (o : Command) (m : Scene) (b : Bool) → IsPlan l s → Orders s t o
    → Shows s (clock t l.hoists l.hoists 0 0) m → o.off ≡ b → off_of b (m.hold l.unload_tank) ≡ off_at s t
off_slot l s t o m false plan orders shows is =
    sym (pick_none s.carriers (λ c. s.leave c s.last == t) (λ c. Off c) (λ c lt e. let yes = orders.each_off c lt (eqb-true (s.leave c s.last) t e) in cc))
off_slot l s t o m true plan orders shows is =
    let ev = orders.off is in
    let here = off_holder l s t ev.c m plan shows ev.there ev.at in
    off_named (m.hold l.unload_tank) ev.c here ∙
    sym (pick_is s.carriers ev.c (λ c. s.leave c s.last == t) (λ c. Off c) ev.there (eq-eqb (s.leave ev.c s.last) t ev.at)
    (λ d lt e. let there = off_holder l s t d m plan shows lt (eqb-true (s.leave d s.last) t e) in cc))

put_next : (l : Layout) (s : Plan) (t c next : ℕ) → IsPlan l s → ShowsNext s (clock t 0 0 0 0) next → c < s.carriers
    → s.rest c 0 ≡ t → next ≡ c
put_next l s t c next plan shows there at =
    ⊎_elim (λ e. e)
    (λ other. ⊎_elim
    (λ less. absurd (omega (arith, plan.numbered next c less there, shows.rest next (omega arith) (omega arith))))
    (λ more. absurd (omega (arith, shows.below c more)))
    other)
    (cases_order next c)

put_slot : (l : Layout) (s : Plan) (t : ℕ) (o : Command) (m : Scene) (b : Bool) → IsPlan l s → Orders s t o
    → Shows s (clock t 0 0 0 0) m → o.put ≡ b → put_of b m.next ≡ put_at s t
put_slot l s t o m false plan orders shows is =
    sym (pick_none s.carriers (λ c. s.rest c 0 == t) (λ c. Put c) (λ c lt e. let yes = orders.each_put c lt (eqb-true (s.rest c 0) t e) in cc))
put_slot l s t o m true plan orders shows is =
    let ev = orders.put is in
    let here = put_next l s t ev.c m.next plan shows.next ev.there ev.at in
    ap (λ (n : ℕ). Some (Put n)) here ∙
    sym (pick_is s.carriers ev.c (λ c. s.rest c 0 == t) (λ c. Put c) ev.there (eq-eqb (s.rest ev.c 0) t ev.at)
    (λ d lt e. let there = put_next l s t d m.next plan shows.next lt (eqb-true (s.rest d 0) t e) in cc))

begin_hits : (s : Plan) (t h c k : ℕ) → ((s.lifter c k == h) && (s.lift c k == t)) ≡ true
    → (s.lifter c k ≡ h) × (s.lift c k ≡ t)
begin_hits s t h c k e = let p = and_parts (s.lifter c k == h) (s.lift c k == t) e in (eqb-true (s.lifter c k) h p.0, eqb-true (s.lift c k) t p.1)

begin_slot : (l : Layout) (s : Plan) (t h : ℕ) (o : Command) (g : Scene) (begin : Option ℕ) → IsPlan l s → Orders s t o
    → h < l.hoists → Shows s (whole l t) g → o.begin h ≡ begin
    → begin_of h begin (g.carry h) ≡ begin_at s t h
begin_slot l s t h o g None plan orders there shows is =
    sym (pick_move_none s.carriers s.last (λ c k. (s.lifter c k == h) && (s.lift c k == t)) (λ c k. Begin c k h) (λ c k v e.
    let p = begin_hits s t h c k e in
    let yes = orders.each_begin c k v p.1 in
    let no : o.begin (s.lifter c k) ≡ None = ap o.begin p.0 ∙ is in
    cc))
begin_slot l s t h o g (Some to) plan orders there shows is =
    let ev = orders.begin h to is in
    let order = carry_order l s ev.c ev.k plan ev.there in
    let by = ev.by in
    let at = ev.at in
    let was = shows.carries.carried ev.c ev.k ev.there (omega arith, omega arith) in
    let here : g.carry h ≡ Some (carry_of s t ev.c ev.k) = ap g.carry (sym by) ∙ was in
    ap (option_map (λ (x : Carry). Begin x.carrier x.step h)) here ∙
    sym (pick_move_is s.carriers s.last ev.c ev.k (λ c k. (s.lifter c k == h) && (s.lift c k == t)) (λ c k. Begin c k h) ev.there
    (and_from (s.lifter ev.c ev.k == h) (s.lift ev.c ev.k == t) (eq-eqb (s.lifter ev.c ev.k) h by) (eq-eqb (s.lift ev.c ev.k) t at))
    (λ d j v q.
    let p = begin_hits s t h d j q in
    plan.carry_alone t d j ev.c ev.k v ev.there (p.0 ∙ sym by) (omega (arith, p.1))
    (omega (arith, p.1, carry_order l s d j plan v)) (omega arith) (omega arith)))

pub events_are : (l : Layout) (s : Plan) (t : ℕ) (o : Command) (f g : Scene) → IsPlan l s → Orders s t o
    → Shows s (clock t 0 0 0 0) (after_tick l o f) → Shows s (clock t l.hoists l.hoists 0 0) (after_free l o f)
    → Shows s (whole l t) g
    → events_of l t o f g ≡ events_at l s t
events_are l s t o f g plan orders before freed after =
    let m = after_tick l o f in
    let a = collect_same l.hoists (λ h. set_of l (m.carry h)) (set_at s t) (λ h lt. set_slot l s t h m (m.carry h) plan before refl) in
    let b = off_slot l s t o (after_free l o f) o.off plan orders freed refl in
    let c = put_slot l s t o m o.put plan orders before refl in
    let d = collect_same l.hoists (λ h. begin_of h (o.begin h) (g.carry h)) (begin_at s t)
    (λ h lt. begin_slot l s t h o g (o.begin h) plan orders lt after refl) in
    let e : whats_of l o f g ≡ log_at l s t = cc in
    ap (map (at_tick t)) e
