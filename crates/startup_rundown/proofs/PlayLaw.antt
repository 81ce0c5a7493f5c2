-- The whole run: played to its end, with the log of the plan, and the frame empty.
use Rattle.std.proofs.Common.{◌≡◌, ℕ, zero, suc, ◌+◌, ◌-◌, ◌≤◌, ◌<◌, Option, Some, None, Ok, ⊎_elim, sym, refl, ap, subst, ◌∙◌, arith, List, [], ◌++◌}
use Rattle.std.proofs.lemmas.Bool.{cases_eq}
use Rattle.tick_machine.specs.declared.frame.Carry.{Carry}
use Rattle.tick_machine.specs.declared.frame.Hold.{Hold}
use Rattle.tick_machine.specs.declared.order.Go.{Go}
use Rattle.tick_machine.specs.declared.order.Go.TheVariants.{Stay}
use Rattle.tick_machine.specs.Layout.{Layout}
use Rattle.tick_machine.specs.Scene.{Scene, Command}
use Rattle.tick_machine.specs.Points.{edge_by, moved_to}
use Rattle.tick_machine.specs.Step.{after_begin}
use Rattle.startup_rundown.proofs.Plan.{Plan, IsVisit, IsPlan, IsTracked, Orders, Motions}
use Rattle.tick_machine.specs.declared.event.Event.{Event}
use Rattle.tick_machine.specs.Play.{Reached, IsEmpty, empty_scene, step_to, next_step, steps, run}
use Rattle.tick_machine.proofs.EmptyScenes.{there_at}
use Rattle.startup_rundown.proofs.PlanLog.{events_at, log_until}
use Rattle.startup_rundown.proofs.Driven.{IsDriven}
use Rattle.startup_rundown.proofs.Shown.{Shows}
use Rattle.startup_rundown.proofs.Ticks.{rest_lift, enter_rest, lift_leave, lifter_in}
use Rattle.startup_rundown.proofs.Passing.{whole, busy_none, moves_none, passing_shows}
use Rattle.startup_rundown.proofs.StepLaw.{IsAt, Passed, free_shows, events}
use Rattle.startup_rundown.proofs.LogLaw.{events_are}

-- the empty frame before the first tick's events
abbrev pub start : Layout → (ℕ → ℕ → ℕ) → ℕ → Scene
start l pos first = empty_scene l (λ h. pos h first)

begins : (l : Layout) (s : Plan) (pos : ℕ → ℕ → ℕ) (t : ℕ) (o : Command) → IsPlan l s
    → ((h : ℕ) → h < l.hoists → o.go h ≡ Stay) → ((c k : ℕ) → IsVisit s c k → t ≤ s.enter c k)
    → Passed l s pos t o (start l pos t)
begins l s pos t o plan stays starts = record {
  no_busy = λ h lt. refl;
  no_edge = λ h lt. ap (λ (go : Go). edge_by l h None go ((start l pos t).at h)) (stays h lt);
  at = λ h lt. ap (λ (go : Go). moved_to l None go ((start l pos t).at h)) (stays h lt) ∙ there_at l.hoists (λ j. pos j t) h lt;
  shows = record {
    holds = record {
      held = λ c k r v q. absurd (omega (arith, q.0, starts c k v));
      holds = λ i x e. absurd (let g = e in cc);
    };
    carries = record {
      carried = λ c k v q. absurd (let w : IsVisit s c k = (v.0, omega (arith, v.1)) in omega (
        arith,
        q.0,
        starts c k w,
        enter_rest l s c k plan w,
        rest_lift l s c k plan w,
      ));
      carries = λ h x e. absurd (let g = e in cc);
    };
    next = record {
      few = omega arith;
      below = λ c lt. absurd (omega arith);
      rest = λ c lt le. let w : IsVisit s c 0 = (lt, omega arith) in omega (arith, starts c 0 w, enter_rest l s c 0 plan w);
    };
  };
}

-- a step without a breach, with the tick's log
record Stepped (l : Layout) (s : Plan) (pos : ℕ → ℕ → ℕ) (t : ℕ) (o : Command) (p : Reached) : Type 0 where
  frame : Scene
  at : IsAt l s pos t frame
  is : next_step l t o (Ok p) ≡ Ok (record { frame = frame; log = p.log ++ events_at l s t })

stepped : (l : Layout) (s : Plan) (pos : ℕ → ℕ → ℕ) (t : ℕ) (o : Command) (p : Reached) → IsPlan l s → IsTracked l s pos
    → Orders s t o → Passed l s pos t o p.frame → Stepped l s pos t o p
stepped l s pos t o p plan track orders passed =
    let e = events l s pos t o p.frame plan track orders passed in
    let g = after_begin l o p.frame in
    let log = events_are l s t o p.frame g plan orders passed.shows (free_shows l s pos t o p.frame plan passed) e.1.shows in
    record { frame = g; at = e.1; is = ap (step_to l t o p) e.0 ∙ ap (λ (w : List Event). Ok (record { frame = g; log = p.log ++ w })) log }

-- where the run is n ticks after the first
record GotTo (l : Layout) (s : Plan) (pos : ℕ → ℕ → ℕ) (orders : ℕ → Command) (first n : ℕ) : Type 0 where
  frame : Scene
  at : IsAt l s pos (first + n) frame
  is : steps l orders first (record { frame = start l pos first; log = [] }) n ≡ Ok (record { frame = frame; log = log_until l s first n })

got_to : (l : Layout) (s : Plan) (pos : ℕ → ℕ → ℕ) (orders : ℕ → Command) (first n : ℕ) → IsPlan l s → IsTracked l s pos
    → IsDriven l s pos orders first → GotTo l s pos orders first n
got_to l s pos orders first zero plan track driven =
    let p : Reached = record { frame = start l pos first; log = [] } in
    let g = stepped l s pos first (orders first) p plan track (driven.events first (omega arith))
    (begins l s pos first (orders first) plan driven.still driven.starts) in
    let e : first ≡ first + 0 = omega arith in
    record { frame = g.frame; at = subst (λ (t : ℕ). IsAt l s pos t g.frame) e g.at; is = g.is }
got_to l s pos orders first (suc n) plan track driven =
    let r = got_to l s pos orders first n plan track driven in
    let p : Reached = record { frame = r.frame; log = log_until l s first n } in
    let t = first + n in
    let u = first + suc n in
    let e : t + 1 ≡ u = omega arith in
    let o = orders u in
    let later : first ≤ u = omega arith in
    let os : Orders s u o = driven.events u later in
    let motions : Motions l s pos t o = subst (λ (v : ℕ). Motions l s pos t (orders v)) e (driven.motions t (omega arith)) in
    let before : Orders s (t + 1) o = subst (λ (v : ℕ). Orders s v o) (sym e) os in
    let passed : Passed l s pos (t + 1) o r.frame = record {
      no_busy = λ h lt. busy_none l s pos t h o r.frame plan before motions lt r.at.shows;
      no_edge = λ h lt. (moves_none l s pos t h o r.frame plan track motions lt r.at.shows (r.at.at h lt)).0;
      at = λ h lt. (moves_none l s pos t h o r.frame plan track motions lt r.at.shows (r.at.at h lt)).1;
      shows = passing_shows l s t o r.frame plan r.at.shows;
    } in
    let g = stepped l s pos u o p plan track os (subst (λ (v : ℕ). Passed l s pos v o r.frame) e passed) in
    record { frame = g.frame; at = g.at; is = ap (next_step l u o) r.is ∙ g.is }

no_hold : (l : Layout) (s : Plan) (t i : ℕ) (f : Scene) (o : Option Hold) → IsPlan l s → Shows s (whole l t) f
    → ((c k : ℕ) → IsVisit s c k → s.leave c k ≤ t) → f.hold i ≡ o → o ≡ None
no_hold l s t i f None plan shows over has = refl
no_hold l s t i f (Some x) plan shows over has =
    let g = shows.holds.holds i x has in
    absurd (omega (arith, over x.carrier x.stage g.0, g.2.1, lifter_in l s x.carrier x.stage plan g.0))

no_carry : (l : Layout) (s : Plan) (t h : ℕ) (f : Scene) (o : Option Carry) → IsPlan l s → Shows s (whole l t) f
    → ((c k : ℕ) → IsVisit s c k → s.leave c k ≤ t) → f.carry h ≡ o → o ≡ None
no_carry l s t h f None plan shows over has = refl
no_carry l s t h f (Some x) plan shows over has =
    let g = shows.carries.carries h x has in
    let v : IsVisit s x.carrier (x.step + 1) = (g.0.0, omega (arith, g.0.1)) in
    absurd (omega (
      arith,
      over x.carrier (x.step + 1) v,
      g.2.1,
      rest_lift l s x.carrier (x.step + 1) plan v,
      lift_leave l s x.carrier (x.step + 1) plan v,
      (plan.moves x.carrier x.step g.0).there,
    ))

all_on : (l : Layout) (s : Plan) (t : ℕ) (f : Scene) → IsPlan l s → Shows s (whole l t) f
    → ((c k : ℕ) → IsVisit s c k → s.leave c k ≤ t) → f.next ≡ s.carriers
all_on l s t f plan shows over =
    ⊎_elim (λ e. e)
    (λ ne.
    let lt : f.next < s.carriers = omega (arith, shows.next.few) in
    let v : IsVisit s f.next 0 = (lt, omega arith) in
    absurd (omega (
      arith,
      shows.next.rest f.next lt (omega arith),
      (plan.puts f.next lt).setter,
      over f.next 0 v,
      rest_lift l s f.next 0 plan v,
      lift_leave l s f.next 0 plan v,
    )))
    (cases_eq f.next s.carriers)

-- the run is played to its end, the frame is empty then, and the log is that of the plan
pub plays_through : (l : Layout) (s : Plan) (pos : ℕ → ℕ → ℕ) (orders : ℕ → Command) (first last : ℕ) → IsPlan l s
    → IsTracked l s pos → IsDriven l s pos orders first → first ≤ last
    → ((c k : ℕ) → IsVisit s c k → s.leave c k ≤ last)
    → (f : Scene) × (run l (λ h. pos h first) orders first last
    ≡ Ok (record { frame = f; log = log_until l s first (last - first) })) × IsEmpty f × (f.next ≡ s.carriers)
plays_through l s pos orders first last plan track driven le over =
    let n = last - first in
    let end : first + n ≡ last = omega arith in
    let ends : (c k : ℕ) → IsVisit s c k → s.leave c k ≤ first + n = λ c k v. omega (arith, over c k v) in
    let r = got_to l s pos orders first n plan track driven in
    let shows = r.at.shows in (
      r.frame,
      r.is,
      record {
        carry = λ h. no_carry l s (first + n) h r.frame (r.frame.carry h) plan shows ends refl;
        hold = λ i. no_hold l s (first + n) i r.frame (r.frame.hold i) plan shows ends refl;
      },
      all_on l s (first + n) r.frame plan shows ends,
    )
