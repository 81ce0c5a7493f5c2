-- Start-up and run-down: the run of a legal timetable goes from an empty line to an empty line, with its own log.
use Rattle.std.proofs.Common.{◌≡◌, ℕ, zero, suc, ◌+◌, ◌-◌, ◌≤◌, ◌<◌, List, Result, Ok, ⊎_elim, sym, refl, ap, subst, ◌∙◌, arith}
use Rattle.std.specs.Prelude.{◌==◌, ◌&&◌, map}
use Rattle.std.proofs.lemmas.Bool.{cases_eq}
use Rattle.hoist_base.specs.LineData.{LineData, last_stage}
use Rattle.line_model.specs.Timetable.{Timetable, position}
use Rattle.line_model.specs.Run.{run_put, run_off, run_hoist}
use Rattle.tick_machine.specs.declared.event.What.TheVariants.{Set, Off, Begin}
use Rattle.tick_machine.specs.declared.event.Event.{Event}
use Rattle.tick_machine.specs.declared.run.Played.{Played}
use Rattle.tick_machine.specs.declared.run.Played.TheVariants.{Done, Refused}
use Rattle.tick_machine.specs.Layout.{layout_of}
use Rattle.tick_machine.specs.Scene.{Scene, scene_of}
use Rattle.tick_machine.specs.Events.{collect, at_tick}
use Rattle.tick_machine.specs.Play.{Reached, Stop, IsEmpty, IsPlayed}
use Rattle.startup_rundown.specs.RunLog as logs
use Rattle.startup_rundown.specs.Driving.{order_into, RunsThrough, IsDoneRun, PlaysThrough, StartsUpAndRunsDown}
use Rattle.startup_rundown.proofs.Plan.{IsVisit}
use Rattle.startup_rundown.proofs.Ticks.{lift_leave, rest_lift, enter_rest}
use Rattle.startup_rundown.proofs.PlanLog as plans
use Rattle.startup_rundown.proofs.Picks.{pick_same, pick_move_same, collect_same}
use Rattle.startup_rundown.proofs.PlayLaw.{plays_through}
use Rattle.startup_rundown.proofs.RunPlan.{IsRun, run_is, run_of, run_plan, run_tracked, puts_rise}
use Rattle.startup_rundown.proofs.DriveLaw.{moves_are, leaves_at, drives}

-- a carrier's visits come one after another
enter_later : (l : LineData) (p : Timetable) (n c k : ℕ) → IsRun l p n → c < n → k ≤ last_stage l
    → (run_of l p n).enter c 0 ≤ (run_of l p n).enter c k
enter_later l p n c zero run there le = omega arith
enter_later l p n c (suc k) run there le =
    let s = run_of l p n in
    let plan = run_plan l p n run in
    let v : IsVisit s c k = (there, omega arith) in
    let e : s.enter c (k + 1) ≡ s.enter c (suc k) = ap (s.enter c) (omega arith) in
    let m = plan.moves c k (there, omega arith) in
    let o = layout_of l in
    omega (arith, enter_later l p n c k run there (omega arith), m.apart, lift_leave o s c k plan v, rest_lift o s c k plan v, enter_rest o s c k plan v)

leave_later : (l : LineData) (p : Timetable) (n c k m : ℕ) → IsRun l p n → c < n → k + m ≤ last_stage l
    → (run_of l p n).leave c k ≤ (run_of l p n).leave c (k + m)
leave_later l p n c k zero run there le = let s = run_of l p n in let e : s.leave c k ≡ s.leave c (k + zero) = ap (s.leave c) (omega arith) in omega arith
leave_later l p n c k (suc m) run there le =
    let s = run_of l p n in
    let plan = run_plan l p n run in
    let o = layout_of l in
    let j = k + m in
    let v : IsVisit s c (j + 1) = (there, omega arith) in
    let e : s.leave c (j + 1) ≡ s.leave c (k + suc m) = ap (s.leave c) (omega arith) in
    let mv = plan.moves c j (there, omega arith) in
    omega (
      arith,
      leave_later l p n c k m run there (omega arith),
      mv.apart,
      enter_rest o s c (j + 1) plan v,
      rest_lift o s c (j + 1) plan v,
      lift_leave o s c (j + 1) plan v,
    )

-- nothing is before the first put
pub from_first : (l : LineData) (p : Timetable) (n c k : ℕ) → IsRun l p n → IsVisit (run_of l p n) c k
    → logs.first_tick l p ≤ (run_of l p n).enter c k
from_first l p n c k run v =
    let later = enter_later l p n c k run v.0 v.1 in
    ⊎_elim
    (λ e. let same : run_put l p c ≡ run_put l p 0 = ap (run_put l p) e in omega arith)
    (λ ne. omega (arith, puts_rise l p n 0 c run (omega arith)))
    (cases_eq c 0)

-- nothing is after the last off
pub at_most_greatest : (n c : ℕ) (f : ℕ → ℕ) → c < n → f c ≤ logs.greatest n f
at_most_greatest zero c f lt = absurd (omega arith)
at_most_greatest (suc n) c f lt =
    ⊎_elim
    (λ e. let same : f c ≡ f n = ap f e in omega arith)
    (λ ne. omega (arith, at_most_greatest n c f (omega arith)))
    (cases_eq c n)

pub until_last : (l : LineData) (p : Timetable) (n c k : ℕ) → IsRun l p n → IsVisit (run_of l p n) c k
    → (run_of l p n).leave c k ≤ logs.last_tick l p n
until_last l p n c k run v =
    let s = run_of l p n in
    let last = last_stage l in
    let e : s.leave c (k + (last - k)) ≡ s.leave c last = ap (s.leave c) (omega (arith, v.1)) in
    omega (arith, leave_later l p n c k (last - k) run v.0 (omega (arith, v.1)), leaves_at l p n c, at_most_greatest n c (run_off l p) v.0)

pub first_last : (l : LineData) (p : Timetable) (n : ℕ) → IsRun l p n → 1 ≤ n
    → logs.first_tick l p ≤ logs.last_tick l p n
first_last l p n run some =
    let s = run_of l p n in
    let o = layout_of l in
    let plan = run_plan l p n run in
    let v : IsVisit s 0 0 = (omega arith, omega arith) in
    omega (arith, from_first l p n 0 0 run v, until_last l p n 0 0 run v, enter_rest o s 0 0 plan v, rest_lift o s 0 0 plan v, lift_leave o s 0 0 plan v)

-- the log of the plan is that of the run
events_same : (l : LineData) (p : Timetable) (n t : ℕ)
    → plans.events_at (layout_of l) (run_of l p n) t ≡ logs.events_at l p n t
events_same l p n t =
    let s = run_of l p n in
    let last = last_stage l in
    let a : collect l.hoists (plans.set_at s t) ≡ collect l.hoists (logs.set_at l p n t) = collect_same l.hoists (plans.set_at s t) (logs.set_at l p n t)
    (λ h lt. pick_move_same n last _ _ (λ c k. Set c (k + 1)) (λ c k. Set c (k + 1)) (λ c k v.
    let m = moves_are l p n c k v.1 in
    (ap (λ (i : ℕ). (i == h) && (s.rest c (k + 1) == t)) m.lifter ∙ ap (λ (u : ℕ). (run_hoist l p c k == h) && (u == t)) m.rest, refl))) in
    let b : plans.off_at s t ≡ logs.off_at l p n t = pick_same n _ _ (λ c. Off c) (λ c. Off c) (λ c lt. (ap (λ (u : ℕ). u == t) (leaves_at l p n c), refl)) in
    let d : collect l.hoists (plans.begin_at s t) ≡ collect l.hoists (logs.begin_at l p n t) = collect_same l.hoists
    (plans.begin_at s t) (logs.begin_at l p n t)
    (λ h lt. pick_move_same n last _ _ (λ c k. Begin c k h) (λ c k. Begin c k h) (λ c k v.
    let m = moves_are l p n c k v.1 in
    (ap (λ (i : ℕ). (i == h) && (s.lift c k == t)) m.lifter ∙ ap (λ (u : ℕ). (run_hoist l p c k == h) && (u == t)) m.lift, refl))) in
    let e : plans.log_at (layout_of l) s t ≡ logs.whats_at l p n t = cc in
    ap (map (at_tick t)) e

log_same : (l : LineData) (p : Timetable) (n first m : ℕ)
    → plans.log_until (layout_of l) (run_of l p n) first m ≡ logs.events_from l p n first m
log_same l p n first zero = events_same l p n first
log_same l p n first (suc m) = let a = log_same l p n first m in let b = events_same l p n (first + suc m) in cc

pub runs_through : (l : LineData) (p : Timetable) (n : ℕ) → IsRun l p n → 1 ≤ n → RunsThrough l p n
runs_through l p n run some =
    let first = logs.first_tick l p in
    let last = logs.last_tick l p n in
    let done = plays_through (layout_of l) (run_of l p n) (position p) (order_into l p n) first last (run_plan l p n run) (run_tracked l p n run)
    (drives l p n first run refl (λ c k v. from_first l p n c k run v)) (first_last l p n run some) (λ c k v. until_last l p n c k run v) in
    (done.0, done.1 ∙ ap (λ (log : List Event). Ok (record { frame = done.0; log = log })) (log_same l p n first (last - first)), done.2, done.3)

-- an answer of a run that is reached is done
done_is : (l : LineData) (p : Timetable) (n : ℕ) (r : Result Reached Stop) (f : Scene) (played : Played)
    → r ≡ Ok (record { frame = f; log = logs.run_log l p n }) → IsEmpty f → f.next ≡ n → IsPlayed r played
    → IsDoneRun l p n played
done_is l p n r f (Done log end) is empty next so =
    let same : record { frame = scene_of end; log = log.items } ≡ record { frame = f; log = logs.run_log l p n } = let a = sym so ∙ is in cc in
    let frame : scene_of end ≡ f = ap (λ (x : Reached). x.frame) same in
    (ap (λ (x : Reached). x.log) same, subst IsEmpty (sym frame) empty, ap (λ (x : Scene). x.next) frame ∙ next)
done_is l p n r f (Refused tick breach) is empty next so = let a = sym so ∙ is in absurd (let g = a in cc)

pub plays_done : (l : LineData) (p : Timetable) (n : ℕ) → RunsThrough l p n → PlaysThrough l p n
plays_done l p n (f, is, empty, next) played so = done_is l p n _ f played is empty next so

pub starts_up_and_runs_down : StartsUpAndRunsDown
starts_up_and_runs_down l p n line legal some = runs_through l p n (run_is l p n line legal) some
