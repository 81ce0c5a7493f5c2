-- The orders drive the run.
use Rattle.std.proofs.Common.{◌≡◌, ℕ, ◌+◌, ◌-◌, ◌≤◌, ◌<◌, Option, Some, None, ⊎_elim, sym, refl, ap, subst, ◌∙◌, arith}
use Rattle.std.specs.Prelude.{Bool, true, false, ◌==◌, ◌&&◌, ◌||◌, nat_lt, is_some}
use Rattle.std.proofs.lemmas.Bool.{cases_lt, eq-eqb, ne_eqb, eqb-true, ltb-true, lt-ltb, le-ltb, cond-true, cond-false, and_parts, and_from, or_left, or_right, false_from_ne_true}
use Rattle.hoist_base.specs.LineData.{LineData, last_stage}
use Rattle.line_model.specs.Timetable.{Timetable, position}
use Rattle.line_model.specs.Run.{copied, in_run, run_put, run_off, run_start, run_hoist, run_tank}
use Rattle.tick_machine.specs.declared.order.Go.TheVariants.{Stay, Low, High}
use Rattle.tick_machine.specs.Layout.{layout_of}
use Rattle.startup_rundown.specs.Picks.{pick, pick_move}
use Rattle.startup_rundown.specs.RunLog.{run_end}
use Rattle.startup_rundown.specs.Driving.{toward, is_loaded, order_into}
use Rattle.startup_rundown.proofs.Plan.{IsVisit, Goes}
use Rattle.startup_rundown.proofs.Driven.{IsDriven}
use Rattle.startup_rundown.proofs.Ticks.{carry_order}
use Rattle.startup_rundown.proofs.Picks.{pick_found, hit_not, pick_move_is, pick_move_found, move_not}
use Rattle.startup_rundown.proofs.RunPlan.{IsRun, run_of, next_is, other_is, end_last, run_plan}

-- what is there was picked
pub some_of : {A : Type 0} (o : Option A) → is_some o ≡ true → (v : A) × (o ≡ Some v)
some_of None e = absurd (let g = e in cc)
some_of (Some v) e = (v, refl)

pub some_if : {A : Type 0} (o : Option A) → (o ≡ None → ⊥) → is_some o ≡ true
some_if None some = absurd (some refl)
some_if (Some v) some = refl

goes_toward : (a b : ℕ) → b ≤ a + 1 → a ≤ b + 1 → Goes (toward a b) a b
goes_toward a b up down =
    ⊎_elim
    (λ lt. let e : toward a b ≡ Low = cond-true (nat_lt b a) _ _ (lt-ltb b a lt) in subst (λ g. Goes g a b) (sym e) (omega arith))
    (λ le. ⊎_elim
    (λ lt. let e : toward a b ≡ High = cond-false (nat_lt b a) _ _ (le-ltb b a le)
    ∙ cond-true (nat_lt a b) _ _ (lt-ltb a b lt) in subst (λ g. Goes g a b) (sym e) (omega arith))
    (λ ge. let e : toward a b ≡ Stay = cond-false (nat_lt b a) _ _ (le-ltb b a le)
    ∙ cond-false (nat_lt a b) _ _ (le-ltb a b ge) in subst (λ g. Goes g a b) (sym e) (omega arith))
    (cases_lt a b))
    (cases_lt b a)

-- hoist h carries move k of carrier c into tick t
abbrev pub under : LineData → Timetable → ℕ → ℕ → ℕ → ℕ → Bool
under l p t h c k = (run_hoist l p c k == h) && (nat_lt (run_start l p c k) t && nat_lt (t - 1) (run_end l p c k))

-- hoist h begins move k of carrier c at tick t
abbrev pub starts_at : LineData → Timetable → ℕ → ℕ → ℕ → ℕ → Bool
starts_at l p t h c k = (run_hoist l p c k == h) && (run_start l p c k == t)

neither : (a b : Bool) → a ≡ false → b ≡ false → (a || b) ≡ false
neither true b e f = absurd (let g = e in cc)
neither false b e f = f

loads : (l : LineData) (p : Timetable) (n t h c k : ℕ) → c < n → k < last_stage l → run_hoist l p c k ≡ h
    → run_start l p c k < t → t - 1 < run_end l p c k → is_loaded l p n t h ≡ true
loads l p n t h c k there below by from to =
    some_if (pick_move n (last_stage l) (under l p t h) (λ d j. d)) (move_not n (last_stage l) (under l p t h) (λ d j. d) c k (there, below)
    (and_from (run_hoist l p c k == h) _ (eq-eqb (run_hoist l p c k) h by)
    (and_from (nat_lt (run_start l p c k) t) (nat_lt (t - 1) (run_end l p c k)) (lt-ltb (run_start l p c k) t from)
    (lt-ltb (t - 1) (run_end l p c k) to))))

unloaded : (l : LineData) (p : Timetable) (n t h : ℕ)
    → ((c k : ℕ) → c < n → k < last_stage l → run_hoist l p c k ≡ h → run_start l p c k ≤ t → t < run_end l p c k → ⊥)
    → is_loaded l p n (t + 1) h ≡ false
unloaded l p n t h none =
    false_from_ne_true (is_loaded l p n (t + 1) h)
    (λ yes.
    let v = some_of (pick_move n (last_stage l) (under l p (t + 1) h) (λ d j. d)) yes in
    let r = pick_move_found n (last_stage l) (under l p (t + 1) h) (λ d j. d) v.0 v.1 in
    let q = and_parts (run_hoist l p r.0 r.1 == h) _ r.3 in
    let w = and_parts (nat_lt (run_start l p r.0 r.1) (t + 1)) (nat_lt (t + 1 - 1) (run_end l p r.0 r.1)) q.1 in
    let a = ltb-true (run_start l p r.0 r.1) (t + 1) w.0 in
    let b = ltb-true (t + 1 - 1) (run_end l p r.0 r.1) w.1 in
    none r.0 r.1 r.2.0 r.2.1 (eqb-true (run_hoist l p r.0 r.1) h q.0) (omega arith) (omega arith))

-- a move of the run, as the plan has it
pub record Moves (l : LineData) (p : Timetable) (n c k : ℕ) : Type 0 where
  pub lifter : (run_of l p n).lifter c k ≡ run_hoist l p c k
  pub lift : (run_of l p n).lift c k ≡ run_start l p c k
  pub rest : (run_of l p n).rest c (k + 1) ≡ run_end l p c k

pub moves_are : (l : LineData) (p : Timetable) (n c k : ℕ) → k < last_stage l → Moves l p n c k
moves_are l p n c k below = record {
  lifter = other_is (last_stage l) l.hoists (run_hoist l p c) k below;
  lift = other_is (last_stage l) (run_off l p c) (run_start l p c) k below;
  rest = next_is (run_put l p c) (run_end l p c) k;
}

pub leaves_at : (l : LineData) (p : Timetable) (n c : ℕ) → (run_of l p n).leave c (last_stage l) ≡ run_off l p c
leaves_at l p n c = ap (in_run l p c) (end_last l p (copied l c))

-- no hoist begins two moves of the run at one tick
pub one_start : (l : LineData) (p : Timetable) (n t h c k d j : ℕ) → IsRun l p n → (c < n) × (k < last_stage l)
    → (d < n) × (j < last_stage l) → starts_at l p t h c k ≡ true → starts_at l p t h d j ≡ true → (d ≡ c) × (j ≡ k)
one_start l p n t h c k d j run v w hit other =
    let s = run_of l p n in
    let plan = run_plan l p n run in
    let m = moves_are l p n c k v.1 in
    let m' = moves_are l p n d j w.1 in
    let a = and_parts (run_hoist l p c k == h) (run_start l p c k == t) hit in
    let b = and_parts (run_hoist l p d j == h) (run_start l p d j == t) other in
    let by = eqb-true (run_hoist l p c k) h a.0 in
    let at = eqb-true (run_start l p c k) t a.1 in
    let by' = eqb-true (run_hoist l p d j) h b.0 in
    let at' = eqb-true (run_start l p d j) t b.1 in
    let o = carry_order (layout_of l) s c k plan v in
    let o' = carry_order (layout_of l) s d j plan w in
    plan.carry_alone t d j c k w v (m'.lifter ∙ by' ∙ sym by ∙ sym m.lifter) (omega (arith, m'.lift))
    (omega (arith, m'.lift)) (omega (arith, m.lift)) (omega (arith, m.lift))

pub drives : (l : LineData) (p : Timetable) (n first : ℕ) → IsRun l p n → first ≡ run_put l p 0
    → ((c k : ℕ) → IsVisit (run_of l p n) c k → first ≤ (run_of l p n).enter c k)
    → IsDriven (layout_of l) (run_of l p n) (position p) (order_into l p n) first
drives l p n first run is starts =
    let s = run_of l p n in
    let last = last_stage l in
    let plan = run_plan l p n run in
    record {
      still = λ h lt. cond-true ((first == run_put l p 0) || is_loaded l p n first h) _ _
          (or_left (first == run_put l p 0) _ (eq-eqb first (run_put l p 0) is));
      motions = λ t le. record {
        stays = λ c k v from to.
            let m = moves_are l p n c k v.1 in
            cond-true ((t + 1 == run_put l p 0) || is_loaded l p n (t + 1) (s.lifter c k)) _ _
            (or_right (t + 1 == run_put l p 0) _ (loads l p n (t + 1) (s.lifter c k) c k v.0 v.1 (sym m.lifter)
            (omega (arith, m.lift)) (omega (arith, m.rest))));
        goes = λ h lt none.
            let no : is_loaded l p n (t + 1) h ≡ false = unloaded l p n t h (λ c k there below by from to.
            let m = moves_are l p n c k below in none c k (there, below) (m.lifter ∙ by) (omega (arith, m.lift)) (omega (arith, m.rest))) in
            let other : (t + 1 == run_put l p 0) ≡ false = ne_eqb (t + 1) (run_put l p 0) (λ e. omega arith) in
            let e : (order_into l p n (t + 1)).go h ≡ toward (position p h (t + 1 - 1)) (position p h (t + 1)) = cond-false ((t + 1 == run_put l p 0) || is_loaded l p n (t + 1) h) _ _ (neither (t + 1 == run_put l p 0) (is_loaded l p n (t + 1) h) other no) in
            let f : position p h (t + 1 - 1) ≡ position p h t = ap (position p h) (omega arith) in
            subst (λ go. Goes go (position p h t) (position p h (t + 1))) (sym (e ∙ ap (λ a. toward a (position p h (t + 1))) f))
            (goes_toward (position p h t) (position p h (t + 1)) (run.legal.track.up h t lt) (run.legal.track.down h t lt));
      };
      events = λ t le. record {
        off = λ yes.
            let v = some_of (pick n (λ c. run_off l p c == t) (λ c. c)) yes in
            let r = pick_found n (λ c. run_off l p c == t) (λ c. c) v.0 v.1 in
            record { c = r.0; there = r.1; at = leaves_at l p n r.0 ∙ eqb-true (run_off l p r.0) t r.2 };
        each_off = λ c lt at. some_if (pick n (λ d. run_off l p d == t) (λ d. d))
            (hit_not n (λ d. run_off l p d == t) (λ d. d) c lt
            (eq-eqb (run_off l p c) t (sym (leaves_at l p n c) ∙ at)));
        put = λ yes.
            let v = some_of (pick n (λ c. run_put l p c == t) (λ c. c)) yes in
            let r = pick_found n (λ c. run_put l p c == t) (λ c. c) v.0 v.1 in
            record { c = r.0; there = r.1; at = eqb-true (run_put l p r.0) t r.2 };
        each_put = λ c lt at. some_if (pick n (λ d. run_put l p d == t) (λ d. d))
            (hit_not n (λ d. run_put l p d == t) (λ d. d) c lt (eq-eqb (run_put l p c) t at));
        begin = λ h to e.
            let r = pick_move_found n last (starts_at l p t h) (λ c k. run_tank l p c (k + 1)) to e in
            let m = moves_are l p n r.0 r.1 r.2.1 in
            let q = and_parts (run_hoist l p r.0 r.1 == h) (run_start l p r.0 r.1 == t) r.3 in
            record {
              c = r.0;
              k = r.1;
              there = r.2;
              by = m.lifter ∙ eqb-true (run_hoist l p r.0 r.1) h q.0;
              at = m.lift
                  ∙ eqb-true (run_start l p r.0 r.1) t q.1;
              to_tank = sym r.4;
            };
        each_begin = λ c k v at.
            let m = moves_are l p n c k v.1 in
            let h = s.lifter c k in
            let hit : starts_at l p t h c k ≡ true = and_from (run_hoist l p c k == h) (run_start l p c k == t)
            (eq-eqb (run_hoist l p c k) h (sym m.lifter)) (eq-eqb (run_start l p c k) t (sym m.lift ∙ at)) in
            pick_move_is n last c k (starts_at l p t h) (λ d j. run_tank l p d (j + 1)) v hit
            (λ d j w q. one_start l p n t h c k d j run v w hit q);
      };
      starts = starts;
    }
