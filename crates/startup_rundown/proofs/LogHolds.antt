-- The log of a run leaves nothing out; with what LogOrder says it is whole.
use Rattle.std.proofs.Common.{◌≡◌, ℕ, zero, suc, ◌+◌, ◌-◌, ◌≤◌, ◌<◌, Option, Some, List, [], ◌∷◌, ◌++◌, length, slice_index_or, ⊎_elim, sym, refl, ap, subst, ◌∙◌, arith}
use Rattle.std.specs.Prelude.{true, ◌==◌, ◌&&◌, map}
use Rattle.std.specs.List.{Contains}
use Rattle.std.proofs.lemmas.Bool.{cases_eq, cases_order, eq-eqb, eqb-true, and_parts, and_from}
use Rattle.std.proofs.lemmas.List.Elements.{Contains-append_left, Contains-append_right}
use Rattle.hoist_base.specs.LineData.{LineData, last_stage}
use Rattle.line_model.specs.Timetable.{Timetable}
use Rattle.line_model.specs.Run.{run_put, run_off, run_start, run_hoist}
use Rattle.tick_machine.specs.declared.event.What.{What}
use Rattle.tick_machine.specs.declared.event.What.TheVariants.{Set, Off, Put, Begin}
use Rattle.tick_machine.specs.declared.event.Event.{Event}
use Rattle.tick_machine.specs.Layout.{layout_of}
use Rattle.tick_machine.specs.Events.{given, collect, at_tick}
use Rattle.startup_rundown.specs.RunLog.{run_end, set_at, off_at, put_at, begin_at, whats_at, events_at, events_from, first_tick, last_tick}
use Rattle.startup_rundown.specs.LogLaws.{Logs, LogsAll, LogIsWhole}
use Rattle.startup_rundown.proofs.Plan.{IsVisit}
use Rattle.startup_rundown.proofs.Ticks.{rest_lift, lift_leave, enter_rest, carry_order}
use Rattle.startup_rundown.proofs.LogOrder.{log_only, log_once, log_ordered}
use Rattle.startup_rundown.proofs.Picks.{pick_is, pick_move_is}
use Rattle.startup_rundown.proofs.RunPlan.{IsRun, run_is, run_of, run_plan, puts_rise}
use Rattle.startup_rundown.proofs.DriveLaw.{moves_are, leaves_at, starts_at, one_start}
use Rattle.startup_rundown.proofs.RunLaw.{from_first, until_last}

given_has : (o : Option What) (w : What) → o ≡ Some w → Contains (given o) w
given_has o w e = let one : Contains (w ∷ []) w = (0, omega arith, refl) in subst (λ (x : Option What). Contains (given x) w) (sym e) one

collect_has : (n h : ℕ) (event : ℕ → Option What) (w : What) → h < n → event h ≡ Some w → Contains (collect n event) w
collect_has zero h event w lt e = absurd (omega arith)
collect_has (suc n) h event w lt e =
    ⊎_elim
    (λ last. Contains-append_right (collect n event) (given (event n)) w (given_has (event n) w (sym (ap event last) ∙ e)))
    (λ below. Contains-append_left (collect n event) (given (event n)) w (collect_has n h event w (omega arith) e))
    (cases_eq h n)

map_has : (t : ℕ) (xs : List What) (w : What) (k : ℕ) → k < length xs → slice_index_or xs k w ≡ w
    → Contains (map (at_tick t) xs) (at_tick t w)
map_has t [] w k lt e = absurd (omega arith)
map_has t (x ∷ xs) w zero lt e = (0, omega arith, ap (at_tick t) e)
map_has t (x ∷ xs) w (suc k) lt e = let r = map_has t xs w k (omega arith) e in (suc r.0, omega (arith, r.1), r.2)

from_has : (l : LineData) (p : Timetable) (n first m t : ℕ) (e : Event) → first ≤ t → t ≤ first + m
    → Contains (events_at l p n t) e → Contains (events_from l p n first m) e
from_has l p n first zero t e from to has = let same : t ≡ first = omega arith in subst (λ (u : ℕ). Contains (events_at l p n u) e) same has
from_has l p n first (suc m) t e from to has =
    ⊎_elim
    (λ last. Contains-append_right (events_from l p n first m) (events_at l p n (first + suc m)) e (subst (λ (u : ℕ). Contains (events_at l p n u) e) last has))
    (λ below. Contains-append_left (events_from l p n first m) (events_at l p n (first + suc m)) e (from_has l p n first m t e from (omega arith) has))
    (cases_eq t (first + suc m))

-- a part of what happens at a tick
in_first : (a b c d : List What) (w : What) → Contains a w → Contains (a ++ b ++ c ++ d) w
in_first a b c d w h = Contains-append_left (a ++ b ++ c) d w (Contains-append_left (a ++ b) c w (Contains-append_left a b w h))

in_second : (a b c d : List What) (w : What) → Contains b w → Contains (a ++ b ++ c ++ d) w
in_second a b c d w h = Contains-append_left (a ++ b ++ c) d w (Contains-append_left (a ++ b) c w (Contains-append_right a b w h))

in_third : (a b c d : List What) (w : What) → Contains c w → Contains (a ++ b ++ c ++ d) w
in_third a b c d w h = Contains-append_left (a ++ b ++ c) d w (Contains-append_right (a ++ b) c w h)

in_fourth : (a b c d : List What) (w : What) → Contains d w → Contains (a ++ b ++ c ++ d) w
in_fourth a b c d w h = Contains-append_right (a ++ b ++ c) d w h

-- what happens at a tick of the run is in its log
logged : (l : LineData) (p : Timetable) (n t : ℕ) (w : What) → first_tick l p ≤ t → t ≤ last_tick l p n
    → Contains (whats_at l p n t) w → Logs l p n t w
logged l p n t w from to has =
    from_has l p n (first_tick l p) (last_tick l p n - first_tick l p) t (at_tick t w) from (omega arith) (map_has t (whats_at l p n t) w has.0 has.1 has.2)

-- the ticks of a visit are ticks of the run
record Ticks (l : LineData) (p : Timetable) (n c k : ℕ) : Type 0 where
  rest_from : first_tick l p ≤ (run_of l p n).rest c k
  rest_lift : (run_of l p n).rest c k ≤ (run_of l p n).lift c k
  lift_leave : (run_of l p n).lift c k ≤ (run_of l p n).leave c k
  leave_to : (run_of l p n).leave c k ≤ last_tick l p n

ticks : (l : LineData) (p : Timetable) (n c k : ℕ) → IsRun l p n → IsVisit (run_of l p n) c k → Ticks l p n c k
ticks l p n c k run v =
    let s = run_of l p n in
    let o = layout_of l in
    let plan = run_plan l p n run in
    let a = from_first l p n c k run v in
    let b = enter_rest o s c k plan v in
    record { rest_from = omega arith; rest_lift = rest_lift o s c k plan v; lift_leave = lift_leave o s c k plan v; leave_to = until_last l p n c k run v }

put_logged : (l : LineData) (p : Timetable) (n c : ℕ) → IsRun l p n → c < n → Logs l p n (run_put l p c) (Put c)
put_logged l p n c run there =
    let t = run_put l p c in
    let v = ticks l p n c 0 run (there, omega arith) in
    let is : put_at l p n t ≡ Some (Put c) = pick_is n c (λ d. run_put l p d == t) (λ d. Put d) there (eq-eqb t t refl) (λ d lt e.
    let same = eqb-true (run_put l p d) t e in
    ⊎_elim (λ q. q) (λ other. ⊎_elim (λ less. absurd (omega (arith, puts_rise l p n d c run less)))
    (λ more. absurd (omega (arith, puts_rise l p n c d run more))) other) (cases_order d c)) in
    logged l p n t (Put c) v.rest_from (omega (arith, v.rest_lift, v.lift_leave, v.leave_to))
    (in_third (collect l.hoists (set_at l p n t)) (given (off_at l p n t)) (given (put_at l p n t))
    (collect l.hoists (begin_at l p n t)) (Put c) (given_has (put_at l p n t) (Put c) is))

off_logged : (l : LineData) (p : Timetable) (n c : ℕ) → IsRun l p n → c < n → Logs l p n (run_off l p c) (Off c)
off_logged l p n c run there =
    let s = run_of l p n in
    let o = layout_of l in
    let plan = run_plan l p n run in
    let last = last_stage l in
    let t = run_off l p c in
    let v : IsVisit s c last = (there, omega arith) in
    let w = ticks l p n c last run v in
    let at = leaves_at l p n c in
    let holds : (d : ℕ) → d < n → s.enter d last < s.leave d last = λ d lt.
    let j = last - 1 in
    let e : last ≡ j + 1 = omega (arith, plan.some_move) in
    let a : s.enter d last ≡ s.enter d (j + 1) = ap (s.enter d) e in
    let b : s.rest d last ≡ s.rest d (j + 1) = ap (s.rest d) e in
    let u : IsVisit s d last = (lt, omega arith) in
    omega (arith, (plan.moves d j (lt, omega (arith, plan.some_move))).lower_takes, rest_lift o s d last plan u, lift_leave o s d last plan u) in
    let is : off_at l p n t ≡ Some (Off c) = pick_is n c (λ d. run_off l p d == t) (λ d. Off d) there (eq-eqb t t refl) (λ d lt e.
    let same = eqb-true (run_off l p d) t e in
    let x = holds d lt in
    let y = holds c there in
    let at' = leaves_at l p n d in
    (plan.hold_alone (t - 1) d last c last (lt, omega arith) v ((plan.offs d lt).tank ∙ sym (plan.offs c there).tank)
    (omega arith) (omega arith) (omega arith) (omega arith)).0) in
    logged l p n t (Off c) (omega (arith, w.rest_from, w.rest_lift, w.lift_leave)) (omega (arith, w.leave_to))
    (in_second (collect l.hoists (set_at l p n t)) (given (off_at l p n t)) (given (put_at l p n t))
    (collect l.hoists (begin_at l p n t)) (Off c) (given_has (off_at l p n t) (Off c) is))

begin_logged : (l : LineData) (p : Timetable) (n c k : ℕ) → IsRun l p n → c < n → k < last_stage l
    → Logs l p n (run_start l p c k) (Begin c k (run_hoist l p c k))
begin_logged l p n c k run there below =
    let t = run_start l p c k in
    let h = run_hoist l p c k in
    let e = Begin c k h in
    let m = moves_are l p n c k below in
    let w = ticks l p n c k run (there, omega arith) in
    let hoist = (run_plan l p n run).moves c k (there, below) in
    let hit : starts_at l p t h c k ≡ true = and_from (run_hoist l p c k == h) (run_start l p c k == t) (eq-eqb h h refl) (eq-eqb t t refl) in
    let is : begin_at l p n t h ≡ Some e = pick_move_is n (last_stage l) c k (starts_at l p t h) (λ d j. Begin d j h) (there, below) hit
    (λ d j v q. one_start l p n t h c k d j run (there, below) v hit q) in
    logged l p n t e (omega (arith, w.rest_from, w.rest_lift, m.lift)) (omega (arith, w.lift_leave, w.leave_to, m.lift))
    (in_fourth (collect l.hoists (set_at l p n t)) (given (off_at l p n t)) (given (put_at l p n t)) (collect l.hoists (begin_at l p n t)) e
    (collect_has l.hoists h (begin_at l p n t) e (omega (arith, hoist.there, m.lifter)) is))

set_logged : (l : LineData) (p : Timetable) (n c k : ℕ) → IsRun l p n → c < n → k < last_stage l
    → Logs l p n (run_end l p c k) (Set c (k + 1))
set_logged l p n c k run there below =
    let s = run_of l p n in
    let o = layout_of l in
    let plan = run_plan l p n run in
    let t = run_end l p c k in
    let h = run_hoist l p c k in
    let e = Set c (k + 1) in
    let m = moves_are l p n c k below in
    let w = ticks l p n c (k + 1) run (there, omega arith) in
    let hoist = plan.moves c k (there, below) in
    let hit : ((run_hoist l p c k == h) && (run_end l p c k == t))
    ≡ true = and_from (run_hoist l p c k == h) (run_end l p c k == t) (eq-eqb h h refl) (eq-eqb t t refl) in
    let is : set_at l p n t h ≡ Some e = pick_move_is n (last_stage l) c k
    (λ d j. (run_hoist l p d j == h) && (run_end l p d j == t)) (λ d j. Set d (j + 1)) (there, below) hit
    (λ d j v q.
    let m' = moves_are l p n d j v.1 in
    let parts = and_parts (run_hoist l p d j == h) (run_end l p d j == t) q in
    let by = eqb-true (run_hoist l p d j) h parts.0 in
    let at = eqb-true (run_end l p d j) t parts.1 in
    let x = carry_order o s d j plan v in
    let y = carry_order o s c k plan (there, below) in
    plan.carry_alone (t - 1) d j c k v (there, below) (m'.lifter ∙ by ∙ sym m.lifter) (omega (arith, m'.rest))
    (omega (arith, m'.rest)) (omega (arith, m.rest)) (omega (arith, m.rest))) in
    logged l p n t e (omega (arith, w.rest_from, m.rest)) (omega (arith, w.rest_lift, w.lift_leave, w.leave_to, m.rest))
    (in_first (collect l.hoists (set_at l p n t)) (given (off_at l p n t)) (given (put_at l p n t))
    (collect l.hoists (begin_at l p n t)) e (collect_has l.hoists h (set_at l p n t) e
    (omega (arith, hoist.there, m.lifter)) is))

logs_all : (l : LineData) (p : Timetable) (n : ℕ) → IsRun l p n → LogsAll l p n
logs_all l p n run = record {
  puts = λ c lt. put_logged l p n c run lt;
  offs = λ c lt. off_logged l p n c run lt;
  begins = λ c k lt below. begin_logged l p n c k run lt below;
  sets = λ c k lt below. set_logged l p n c k run lt below;
}

pub log_is_whole : LogIsWhole
log_is_whole l p n line legal = record {
  all = logs_all l p n (run_is l p n line legal);
  only = log_only l p n;
  once = log_once l p n;
  ordered = log_ordered l p n;
}
