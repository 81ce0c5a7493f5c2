-- Points 1 to 3: nobody is busy or at an edge, and the frame follows the plan through the passing of a tick.
use Rattle.std.proofs.Common.{◌≡◌, ℕ, ◌+◌, ◌-◌, ◌≤◌, ◌<◌, Option, Some, None, ⊎_elim, sym, refl, ap, subst, ◌∙◌, arith}
use Rattle.std.specs.Prelude.{Bool, true, false, ◌==◌, nat_lt}
use Rattle.std.specs.Option.{option_map}
use Rattle.std.proofs.lemmas.Bool.{cases_eq, cases_lt, eq-eqb, ne_eqb, lt-ltb, cond-true, cond-false}
use Rattle.tick_machine.specs.declared.frame.Carry.{Carry}
use Rattle.tick_machine.specs.declared.frame.Hold.{Hold}
use Rattle.tick_machine.specs.declared.frame.Rest.{Rest}
use Rattle.tick_machine.specs.declared.frame.Rest.TheVariants.{Lowering, Resting, Lifting}
use Rattle.tick_machine.specs.declared.order.Go.{Go}
use Rattle.tick_machine.specs.declared.order.Go.TheVariants.{Stay, Low, High}
use Rattle.tick_machine.specs.Layout.{Layout, move_ticks, move_place}
use Rattle.tick_machine.specs.Scene.{Scene, Command, hold_of}
use Rattle.tick_machine.specs.Points.{length_of, busy_by, busy_carry, busy, edge_by, edge, moved_to, moved, grown, older, aged_hold, aged}
use Rattle.startup_rundown.proofs.Plan.{Plan, IsVisit, IsMove, IsPlan, Orders, IsTracked, Goes, Motions}
use Rattle.startup_rundown.proofs.Shown.{Clock, IsHeld, IsCarried, Shows, carry_of}
use Rattle.startup_rundown.proofs.Ticks.{clock, lifter_in, setter_in, carry_order}
use Rattle.startup_rundown.proofs.Begins.{beginning}

-- the frame after the points of tick t
abbrev pub whole : Layout → ℕ → Clock
whole l t = beginning l t l.hoists

busy_fine : (h : ℕ) (ends : Bool) (begin : Option ℕ) → ((to : ℕ) → begin ≡ Some to → ends ≡ true)
    → busy_by h ends Stay begin ≡ None
busy_fine h true None fine = refl
busy_fine h false None fine = refl
busy_fine h true (Some to) fine = refl
busy_fine h false (Some to) fine = absurd (let e = fine to refl in cc)

-- a hoist that begins at the next tick ends its carry there
ends_before : (l : Layout) (s : Plan) (t h to : ℕ) (o : Command) (f : Scene) (x : Carry) → IsPlan l s
    → Orders s (t + 1) o → h < l.hoists → Shows s (whole l t) f → f.carry h ≡ Some x → o.begin h ≡ Some to
    → x.elapsed + 1 ≡ length_of l x
ends_before l s t h to o f x plan orders there shows has begins =
    let ev = orders.begin h to begins in
    let g = shows.carries.carries h x has in
    let m = plan.moves x.carrier x.step g.0 in
    let e : x.elapsed ≡ t - s.lift x.carrier x.step = ap (λ (y : Carry). y.elapsed) g.3 in
    let long : length_of l x ≡ move_ticks l x.step (s.tank x.carrier x.step) (s.tank x.carrier (x.step + 1)) = ap (length_of l) g.3 in
    ⊎_elim
    (λ more.
    let two = plan.carry_alone (t + 1) x.carrier x.step ev.c ev.k g.0 ev.there (g.1 ∙ sym ev.by)
    (omega (arith, g.2.0)) more (omega (arith, ev.at)) (omega (
      arith,
      ev.at,
      carry_order l s ev.c ev.k plan ev.there,
    )) in
    let same : s.lift x.carrier x.step ≡ s.lift ev.c ev.k = ap (λ i. s.lift i x.step) two.0 ∙ ap (s.lift ev.c) two.1 in
    absurd (omega (arith, g.2.0, g.1, ev.at)))
    (λ here. omega (arith, g.2.0, g.2.1, g.1, m.lasts))
    (cases_lt (t + 1) (s.rest x.carrier (x.step + 1)))

stays_on : (l : Layout) (s : Plan) (pos : ℕ → ℕ → ℕ) (t h : ℕ) (o : Command) (f : Scene) (x : Carry)
    → Motions l s pos t o → h < l.hoists → Shows s (whole l t) f → f.carry h ≡ Some x → o.go h ≡ Stay
stays_on l s pos t h o f x motions there shows has =
    let g = shows.carries.carries h x has in
    ap o.go (sym g.1) ∙ motions.stays x.carrier x.step g.0 (omega (arith, g.2.0, g.1)) (omega (arith, g.2.1, g.1))

busy_at : (l : Layout) (s : Plan) (pos : ℕ → ℕ → ℕ) (t h : ℕ) (o : Command) (f : Scene) (c : Option Carry) → IsPlan l s
    → Orders s (t + 1) o → Motions l s pos t o → h < l.hoists → Shows s (whole l t) f → f.carry h ≡ c
    → busy_carry l h c (o.go h) (o.begin h) ≡ None
busy_at l s pos t h o f None plan orders motions there shows has = refl
busy_at l s pos t h o f (Some x) plan orders motions there shows has =
    ap (λ (go : Go). busy_by h (x.elapsed + 1 == length_of l x) go (o.begin h)) (stays_on l s pos t h o f x motions there shows has)
    ∙ busy_fine h (x.elapsed + 1 == length_of l x) (o.begin h)
    (λ to e. eq-eqb (x.elapsed + 1) (length_of l x) (ends_before l s t h to o f x plan orders there shows has e))

pub busy_none : (l : Layout) (s : Plan) (pos : ℕ → ℕ → ℕ) (t h : ℕ) (o : Command) (f : Scene) → IsPlan l s
    → Orders s (t + 1) o → Motions l s pos t o → h < l.hoists → Shows s (whole l t) f
    → busy l o f h ≡ None
busy_none l s pos t h o f plan orders motions there shows = busy_at l s pos t h o f (f.carry h) plan orders motions there shows refl

-- a hoist that carries nothing goes where the positions go
moves_free : (l : Layout) (h track from to at : ℕ) (go : Go) → Goes go from to → at ≡ from → to ≤ l.track
    → (edge_by l h None go at ≡ None) × (moved_to l None go at ≡ to)
moves_free l h track from to at Stay goes is within = (refl, is ∙ sym goes)
moves_free l h track from to at Low goes is within = (cond-false (at == 0) _ _ (ne_eqb at 0 (λ e. omega arith)), omega arith)
moves_free l h track from to at High goes is within = (cond-true (nat_lt at l.track) _ _ (lt-ltb at l.track (omega arith)), omega arith)

moves_at : (l : Layout) (s : Plan) (pos : ℕ → ℕ → ℕ) (t h : ℕ) (o : Command) (f : Scene) (c : Option Carry) → IsPlan l s
    → IsTracked l s pos → Motions l s pos t o → h < l.hoists → Shows s (whole l t) f → f.at h ≡ pos h t → f.carry h ≡ c
    → (edge_by l h c (o.go h) (f.at h) ≡ None) × (moved_to l c (o.go h) (f.at h) ≡ pos h (t + 1))
moves_at l s pos t h o f None plan track motions there shows at has =
    moves_free l h l.track (pos h t) (pos h (t + 1)) (f.at h) (o.go h)
    (motions.goes h there (λ c k v by from to. let no : f.carry (s.lifter c k) ≡ None = ap f.carry by
    ∙ has in let g = shows.carries.carried c k v (omega arith, omega arith) in cc))
    at (track.within h (t + 1) there)
moves_at l s pos t h o f (Some x) plan track motions there shows at has =
    let g = shows.carries.carries h x has in
    let c = x.carrier in
    let k = x.step in
    let m = plan.moves c k g.0 in
    let u = t - s.lift c k + 1 in
    let stay = stays_on l s pos t h o f x motions there shows has in
    let is : move_place l x.step x.from x.to (x.elapsed + 1) ≡ move_place l k (s.tank c k) (s.tank c (k + 1)) u = ap
    (λ (y : Carry). move_place l y.step y.from y.to (y.elapsed + 1)) g.3 in
    let on = track.moves c k u g.0 (omega (arith, m.lasts, g.2.0, g.2.1, g.1)) in
    let tick : s.lift c k + u ≡ t + 1 = omega (arith, g.2.0, g.1) in
    let here : pos (s.lifter c k) (s.lift c k + u) ≡ pos h (t + 1) = ap (λ i. pos i (s.lift c k + u)) g.1 ∙ ap (pos h) tick in
    (ap (λ (go : Go). edge_by l h (Some x) go (f.at h)) stay, is ∙ sym on ∙ here)

pub moves_none : (l : Layout) (s : Plan) (pos : ℕ → ℕ → ℕ) (t h : ℕ) (o : Command) (f : Scene) → IsPlan l s
    → IsTracked l s pos → Motions l s pos t o → h < l.hoists → Shows s (whole l t) f → f.at h ≡ pos h t
    → (edge l o f h ≡ None) × ((moved l o f).at h ≡ pos h (t + 1))
moves_none l s pos t h o f plan track motions there shows at = moves_at l s pos t h o f (f.carry h) plan track motions there shows at refl

-- the rest of a visit a tick before
record Younger (l : Layout) (s : Plan) (t c k : ℕ) (r : Rest) : Type 0 where
  before : Rest
  held : IsHeld s (whole l t) c k before
  grows : older before ≡ r

younger : (l : Layout) (s : Plan) (t c k : ℕ) (r : Rest) → IsPlan l s → IsVisit s c k
    → IsHeld s (clock (t + 1) 0 0 0 0) c k r → Younger l s t c k r
younger l s t c k Lowering plan v h =
    let a = lifter_in l s c k plan v in let b = setter_in l s c k plan v in
    record { before = Lowering; held = (omega (arith, h.0, b.1), omega (arith, h.1), omega (arith, h.2)); grows = refl }
younger l s t c k (Resting age) plan v h =
    let a = lifter_in l s c k plan v in let b = setter_in l s c k plan v in
    let e : age - 1 + 1 ≡ age = omega (arith, h.2.0, h.2.2) in
    record {
      before = Resting (age - 1);
      held = (omega (arith, h.0, b.1), omega (arith, h.1), (omega (arith, h.2.0, b.0), omega (arith, h.2.1), omega (arith, h.2.2, h.2.0)));
      grows = ap (λ (n : ℕ). Resting n) e;
    }
younger l s t c k Lifting plan v h =
    let a = lifter_in l s c k plan v in let b = setter_in l s c k plan v in
    let below : s.lifter c k < l.hoists = ⊎_elim
    (λ e.
    let p : s.lift c k ≡ s.lift c s.last = ap (s.lift c) e in
    let q : s.leave c k ≡ s.leave c s.last = ap (s.leave c) e in
    absurd (omega (arith, h.1, h.2.1, (plan.offs c v.0).at_once)))
    (λ ne. (plan.moves c k (v.0, omega (arith, v.1))).there)
    (cases_eq k s.last) in
    record { before = Lifting; held = (omega (arith, h.0, b.1), omega (arith, h.1), (omega (arith, h.2.0, b.0), omega (arith, h.2.1))); grows = refl }

elder : (l : Layout) (s : Plan) (t c k : ℕ) (r : Rest) → IsPlan l s → IsVisit s c k → IsHeld s (whole l t) c k r
    → IsHeld s (clock (t + 1) 0 0 0 0) c k (older r)
elder l s t c k Lowering plan v h = let a = lifter_in l s c k plan v in let b = setter_in l s c k plan
    v in (omega (arith, h.0), omega (arith, h.1), omega (arith, h.2, b.0))
elder l s t c k (Resting age) plan v h =
    let a = lifter_in l s c k plan v in let b = setter_in l s c k plan v in
    let later : t + 1 ≤ s.lift c k = ⊎_elim
    (λ e.
    let p : s.lift c k ≡ s.lift c s.last = ap (s.lift c) e in
    let q : s.leave c k ≡ s.leave c s.last = ap (s.leave c) e in
    omega (arith, h.1, (plan.offs c v.0).at_once))
    (λ ne. omega (arith, h.2.1, (plan.moves c k (v.0, omega (arith, v.1))).there))
    (cases_eq k s.last) in
    (omega (arith, h.0), omega (arith, h.1), (omega (arith, h.2.0), omega arith, omega (arith, h.2.2)))
elder l s t c k Lifting plan v h = let a = lifter_in l s c k plan v in (omega (arith, h.0), omega (arith, h.1), (omega (arith, h.2.0), omega (arith, h.2.1)))

hold_before : (l : Layout) (s : Plan) (t i : ℕ) (f : Scene) (o : Option Hold) (x : Hold) → IsPlan l s
    → Shows s (whole l t) f → f.hold i ≡ o → option_map aged_hold o ≡ Some x
    → IsVisit s x.carrier x.stage × (s.tank x.carrier x.stage ≡ i) × IsHeld s (clock (t + 1) 0 0 0 0) x.carrier x.stage x.rest
hold_before l s t i f None x plan shows has e = absurd (let g = e in cc)
hold_before l s t i f (Some y) x plan shows has e =
    let g = shows.holds.holds i y has in
    let same : aged_hold y ≡ x = cc in
    subst (λ (z : Hold). IsVisit s z.carrier z.stage × (s.tank z.carrier z.stage ≡ i) × IsHeld s (clock (t + 1) 0 0 0 0) z.carrier z.stage z.rest) same
    (g.0, g.1, elder l s t y.carrier y.stage y.rest plan g.0 g.2)

carry_before : (l : Layout) (s : Plan) (t h : ℕ) (f : Scene) (o : Option Carry) (x : Carry) → IsPlan l s
    → Shows s (whole l t) f → f.carry h ≡ o → option_map grown o ≡ Some x
    → IsMove s x.carrier x.step × (s.lifter x.carrier x.step ≡ h) × IsCarried s (clock (t + 1) 0 0 0 0) x.carrier x.step
    × (x ≡ carry_of s (t + 1) x.carrier x.step)
carry_before l s t h f None x plan shows has e = absurd (let g = e in cc)
carry_before l s t h f (Some y) x plan shows has e =
    let g = shows.carries.carries h y has in
    let same : grown y ≡ x = cc in
    let there = (plan.moves y.carrier y.step g.0).there in
    let n : t - s.lift y.carrier y.step + 1 ≡ t + 1 - s.lift y.carrier y.step = omega (arith, g.2.0) in
    let is : grown y ≡ carry_of s (t + 1) y.carrier y.step = ap grown g.3
    ∙ ap (λ (m : ℕ). record {
      carrier = y.carrier;
      step = y.step;
      elapsed = m;
      from = s.tank y.carrier y.step;
      to = s.tank y.carrier (y.step + 1);
    }) n in
    subst (λ (z : Carry). IsMove s z.carrier z.step × (s.lifter z.carrier z.step ≡ h)
    × IsCarried s (clock (t + 1) 0 0 0 0) z.carrier z.step × (z ≡ carry_of s (t + 1) z.carrier z.step)) same
    (g.0, g.1, (omega (arith, g.2.0), omega (arith, g.2.1)), is)

pub passing_shows : (l : Layout) (s : Plan) (t : ℕ) (o : Command) (f : Scene) → IsPlan l s → Shows s (whole l t) f
    → Shows s (clock (t + 1) 0 0 0 0) (aged (moved l o f))
passing_shows l s t o f plan shows = record {
  holds = record {
    held = λ c k r v q.
        let y = younger l s t c k r plan v q in
        ap (option_map aged_hold) (shows.holds.held c k y.before v y.held) ∙ ap (λ (r' : Rest). Some (hold_of c k r')) y.grows;
    holds = λ i x e. hold_before l s t i f (f.hold i) x plan shows refl e;
  };
  carries = record {
    carried = λ c k v q.
        let there = (plan.moves c k v).there in
        let n : t - s.lift c k + 1 ≡ t + 1 - s.lift c k = omega (arith, q.0) in
        ap (option_map grown) (shows.carries.carried c k v (omega (arith, q.0), omega (arith, q.1)))
        ∙ ap (λ (m : ℕ). Some (record { carrier = c; step = k; elapsed = m; from = s.tank c k; to = s.tank c (k + 1) })) n;
    carries = λ h x e. carry_before l s t h f (f.carry h) x plan shows refl e;
  };
  next = record {
    few = shows.next.few;
    below = λ c lt. omega (arith, shows.next.below c lt, (plan.puts c (omega (arith, shows.next.few))).setter);
    rest = λ c lt le. omega (arith, shows.next.rest c lt le, (plan.puts c lt).setter);
  };
}
