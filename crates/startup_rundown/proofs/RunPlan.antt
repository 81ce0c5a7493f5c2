-- The run of a legal timetable is a plan.
use Rattle.std.proofs.Common.{◌≡◌, ℕ, zero, suc, ◌+◌, ◌-◌, ◌*◌, ◌/◌, ◌%◌, ◌≤◌, ◌<◌, Bool, Option, Some, None, IfSome, List, get_or, ◌⊎◌, ⊎_elim, inl, inr, sym, refl, ap, subst, ◌∙◌, arith}
use Rattle.std.specs.Prelude.{true, cond, ◌==◌, if◌then◌else◌}
use Rattle.std.specs.List.{list_any, Contains}
use Rattle.std.proofs.lemmas.Bool.{cases_eq, cases_lt, eq-eqb, ne_eqb, cond-true, cond-false}
use Rattle.std.proofs.lemmas.List.{get_or_default}
use Rattle.std.proofs.lemmas.List.Folds.{list_any_at}
use Rattle.std.proofs.lemmas.Nat.{mul-le, div-add-mod', mod_below}
use Rattle.hoist_base.specs.LineData.{LineData, stage, last_stage, last_step}
use Rattle.hoist_base.specs.Valid.{IsLine}
use Rattle.line_model.specs.Motion.{duration, place}
use Rattle.line_model.specs.Timetable.{Timetable, position, motion}
use Rattle.line_model.specs.Legal.{IsLegal, hold_begin, hold_end}
use Rattle.line_model.specs.Run.{copied, in_run, run_put, run_off, run_start, run_hoist, run_tank, run_motion, KeepsWindows}
use Rattle.line_laws.proofs.RunLemmas.{runs_keep_windows}
use Rattle.tick_machine.specs.Layout.{layout_of, IsLayout, least_age, move_ticks, move_place}
use Rattle.tick_machine.proofs.Lines.{layout_is}
use Rattle.startup_rundown.specs.RunLog.{run_end}
use Rattle.startup_rundown.proofs.Plan.{Plan, IsMove, IsMoving, IsPlan, IsTracked}

-- first at 0, else f of the one before
abbrev pub from_before : ℕ → (ℕ → ℕ) → ℕ → ℕ
from_before first f k = cond (k == 0) first (f (k - 1))

-- final at the last, else f
abbrev pub to_last : ℕ → ℕ → (ℕ → ℕ) → ℕ → ℕ
to_last last final f k = cond (k == last) final (f k)

abbrev pub run_of : LineData → Timetable → ℕ → Plan
run_of l p n = record {
  carriers = n;
  last = last_stage l;
  enter = λ c k. in_run l p c (hold_begin l p (copied l c) k);
  rest = λ c. from_before (run_put l p c) (run_end l p c);
  lift = λ c. to_last (last_stage l) (run_off l p c) (run_start l p c);
  leave = λ c k. in_run l p c (hold_end l p (copied l c) k);
  tank = run_tank l p;
  lowerer = λ c. from_before 0 (λ k. run_hoist l p c k + 1);
  setter = λ c. from_before l.hoists (run_hoist l p c);
  lifter = λ c. to_last (last_stage l) l.hoists (run_hoist l p c);
}

pub next_is : (first : ℕ) (f : ℕ → ℕ) (k : ℕ) → from_before first f (k + 1) ≡ f k
next_is first f k = cond-false (k + 1 == 0) _ _ (ne_eqb (k + 1) 0 (λ e. omega arith)) ∙ ap f (omega arith)

pub last_is : (last final : ℕ) (f : ℕ → ℕ) (k : ℕ) → k ≡ last → to_last last final f k ≡ final
last_is last final f k e = cond-true (k == last) _ _ (eq-eqb k last e)

pub other_is : (last final : ℕ) (f : ℕ → ℕ) (k : ℕ) → k < last → to_last last final f k ≡ f k
other_is last final f k lt = cond-false (k == last) _ _ (ne_eqb k last (λ e. omega arith))

-- the ticks of a visit's hold
begin_next : (l : LineData) (p : Timetable) (c k : ℕ)
    → hold_begin l p c (k + 1) ≡ p.start c k + duration (motion l p c k) - (stage l (k + 1)).lower
begin_next l p c k =
    let e : k + 1 - 1 ≡ k = omega arith in
    ap (λ (b : Bool). if b then p.put c else p.start c (k + 1 - 1) + duration
    (motion l p c (k + 1 - 1)) - (stage l (k + 1)).lower) (ne_eqb (k + 1) 0 (λ z. omega arith))
    ∙ ap (λ (j : ℕ). p.start c j + duration (motion l p c j) - (stage l (k + 1)).lower) e

end_other : (l : LineData) (p : Timetable) (c k : ℕ) → k < last_stage l
    → hold_end l p c k ≡ p.start c k + (stage l k).lift
end_other l p c k lt = ap (λ (b : Bool). if b then p.off c else p.start c k + (stage l k).lift) (ne_eqb k (last_stage l) (λ e. omega arith))

pub end_last : (l : LineData) (p : Timetable) (c : ℕ) → hold_end l p c (last_stage l) ≡ p.off c
end_last l p c = ap (λ (b : Bool). if b then p.off c else p.start c (last_stage l) + (stage l (last_stage l)).lift) (eq-eqb (last_stage l) (last_stage l) refl)

-- the machine's motion is that of the timetable
ticks_are : (l : LineData) (p : Timetable) (c k : ℕ)
    → move_ticks (layout_of l) k (run_tank l p c k) (run_tank l p c (k + 1)) ≡ duration (run_motion l p c k)
unfolding move_ticks
ticks_are l p c k = refl

places_are : (l : LineData) (p : Timetable) (c k u : ℕ)
    → move_place (layout_of l) k (run_tank l p c k) (run_tank l p c (k + 1)) u ≡ place (run_motion l p c k) u
unfolding move_place
places_are l p c k u = refl

room : (l : LineData) (p : Timetable) (c k : ℕ)
    → (stage l k).lift + (stage l (k + 1)).lower ≤ duration (run_motion l p c k)
room l p c k = omega arith

-- a tank of a stage serves it
serving : (i : ℕ) (xs : List ℕ) → Contains xs i → list_any (λ j. j == i) xs ≡ true
serving i xs (k, lt, at) = list_any_at (λ j. j == i) xs k 0 lt (eq-eqb (get_or xs k 0) i (get_or_default xs k 0 i lt ∙ at))

-- what the law is about
pub record IsRun (l : LineData) (p : Timetable) (n : ℕ) : Type 0 where
  pub line : IsLine l
  pub legal : IsLegal l p
  pub layout : IsLayout (layout_of l)
  pub windows : KeepsWindows l p n
  pub base : (c : ℕ) → copied l c < l.degree

pub run_is : (l : LineData) (p : Timetable) (n : ℕ) → IsLine l → IsLegal l p → IsRun l p n
run_is l p n line legal = record {
  line = line;
  legal = legal;
  layout = layout_is l line;
  windows = runs_keep_windows l p n line legal;
  base = λ c. mod_below c l.degree (omega (arith, line.limits.degree.0));
}

serves : (l : LineData) (p : Timetable) (n c k : ℕ) → IsRun l p n → k ≤ last_stage l
    → (layout_of l).serves (run_tank l p c k) k ≡ true
serves l p n c k run le = serving (run_tank l p c k) (stage l k).tanks (run.legal.routed (copied l c) k (run.base c, omega (arith, run.line.limits.stages.0)))

moving : (l : LineData) (p : Timetable) (n c k : ℕ) → IsRun l p n → IsMove (run_of l p n) c k
    → IsMoving (layout_of l) (run_of l p n) c k
moving l p n c k run v =
    let there = run.legal.carried.hoist (copied l c) k (run.base c, omega (arith, v.1)) in
    let lifter : to_last (last_stage l) l.hoists (run_hoist l p c) k ≡ run_hoist l p c k = other_is (last_stage l) l.hoists (run_hoist l p c) k v.1 in
    let lift : to_last (last_stage l) (run_off l p c) (run_start l p c) k ≡ run_start l p c k = other_is (last_stage l)
    (run_off l p c) (run_start l p c) k v.1 in
    let rest : from_before (run_put l p c) (run_end l p c) (k + 1) ≡ run_end l p c k = next_is (run_put l p c) (run_end l p c) k in
    let leave = end_other l p (copied l c) k v.1 in
    let enter = begin_next l p (copied l c) k in
    let fits = room l p c k in
    let long = ticks_are l p c k in
    let up = (run.layout.lift k v.1).0 in
    let down = (run.layout.lower k v.1).0 in
    record {
      there = omega arith;
      lowerer = next_is 0 (λ j. run_hoist l p c j + 1) k ∙ ap (λ (h : ℕ). h + 1) (sym lifter);
      setter = next_is l.hoists (run_hoist l p c) k ∙ sym lifter;
      lasts = omega arith;
      lowers = omega arith;
      lifts = omega arith;
      lift_takes = omega arith;
      apart = omega arith;
      lower_takes = omega arith;
      way = serves l p n c (k + 1) run (omega (arith, v.1));
    }

-- by the stage of a visit: at the load, at the unload, or between
pub record ByStage (last k : ℕ) (P : ℕ → Type 0) : Type 0 where
  pub at_load : P 0
  pub at_unload : P last
  pub between : (j : ℕ) → j + 1 < last → P (j + 1)

by_stage : (last k : ℕ) (P : ℕ → Type 0) → k ≤ last → ByStage last k P → P k
by_stage last k P le cases =
    ⊎_elim
    (λ e. subst P (sym e) cases.at_load)
    (λ above. ⊎_elim
    (λ e. subst P (sym e) cases.at_unload)
    (λ below. let e : k - 1 + 1 ≡ k = omega arith in subst P e (cases.between (k - 1) (omega arith)))
    (cases_eq k last))
    (cases_eq k 0)

rests : (l : LineData) (p : Timetable) (n c k : ℕ) → IsRun l p n → c < n → k ≤ last_stage l
    → (run_of l p n).rest c k + least_age l k ≤ (run_of l p n).lift c k
rests l p n c k run there le =
    let s = run_of l p n in
    let last = last_stage l in
    let some = run.layout.last.0 in
    by_stage last k (λ j. s.rest c j + least_age l j ≤ s.lift c j) le (record {
      at_load =
          let lift : s.lift c 0 ≡ run_start l p c 0 = other_is last (run_off l p c) (run_start l p c) 0 (omega arith) in
          omega (arith, run.windows.load c there);
      at_unload =
          let j = last - 1 in
          let e : last ≡ j + 1 = omega arith in
          let rest : s.rest c last ≡ run_end l p c j = ap (s.rest c) e ∙ next_is (run_put l p c) (run_end l p c) j in
          let lift : s.lift c last ≡ run_off l p c = last_is last (run_off l p c) (run_start l p c) last refl in
          let step : last_step l ≡ j = omega arith in
          let end : run_end l p c (last_step l) ≡ run_end l p c j = ap (run_end l p c) step in
          let age : least_age l last ≡ l.unload = cond-false (last == 0) _ _ (ne_eqb last 0 (λ z. omega arith))
          ∙ cond-true (last == last) _ _ (eq-eqb last last refl) in
          omega (arith, run.windows.unload c there);
      between = λ j lt.
          let rest : s.rest c (j + 1) ≡ run_end l p c j = next_is (run_put l p c) (run_end l p c) j in
          let lift : s.lift c (j + 1) ≡ run_start l p c (j + 1) = other_is last (run_off l p c) (run_start l p c) (j + 1) lt in
          let age : least_age l (j + 1) ≡ (stage l (j + 1)).min = cond-false (j + 1 == 0) _ _
          (ne_eqb (j + 1) 0 (λ z. omega arith)) ∙ cond-false (j + 1 == last) _ _
          (ne_eqb (j + 1) last (λ z. omega arith)) in
          omega (arith, run.windows.least c j there (omega arith));
    })

no_bound : (o : Option ℕ) (a b : ℕ) → o ≡ None → IfSome o (λ m. a ≤ b + m)
no_bound None a b e = tt
no_bound (Some m) a b e = absurd (let g = e in cc)

bound_same : (o : Option ℕ) (a b x y : ℕ) → a ≡ x → b ≡ y → IfSome o (λ m. x ≤ y + m) → IfSome o (λ m. a ≤ b + m)
bound_same None a b x y e f h = tt
bound_same (Some m) a b x y e f h = omega (arith, h)

in_time : (l : LineData) (p : Timetable) (n c k : ℕ) → IsRun l p n → c < n → k ≤ last_stage l
    → IfSome (stage l k).max (λ m. (run_of l p n).lift c k ≤ (run_of l p n).rest c k + m)
in_time l p n c k run there le =
    let s = run_of l p n in
    let last = last_stage l in
    by_stage last k (λ j. IfSome (stage l j).max (λ m. s.lift c j ≤ s.rest c j + m)) le (record {
      at_load = no_bound (stage l 0).max (s.lift c 0) (s.rest c 0) run.layout.no_end_first;
      at_unload = no_bound (stage l last).max (s.lift c last) (s.rest c last) run.layout.no_end_last;
      between = λ j lt.
          bound_same (stage l (j + 1)).max (s.lift c (j + 1)) (s.rest c (j + 1)) (run_start l p c (j + 1)) (run_end l p c j)
          (other_is last (run_off l p c) (run_start l p c) (j + 1) lt) (next_is (run_put l p c) (run_end l p c) j)
          (run.windows.greatest c j there (omega arith));
    })

-- puts rise in one period ..
rise : (l : LineData) (p : Timetable) (a m : ℕ) → IsLegal l p → a + suc m < l.degree → p.put a < p.put (a + suc m)
rise l p a zero legal lt = let e : p.put (a + 1) ≡ p.put (a + suc zero) = ap p.put (omega arith) in omega (arith, legal.numbered.rising a (omega arith))
rise l p a (suc m) legal lt =
    let e : p.put (a + suc m + 1) ≡ p.put (a + suc (suc m)) = ap p.put (omega arith) in
    omega (arith, rise l p a m legal (omega arith), legal.numbered.rising (a + suc m) (omega arith))

rising : (l : LineData) (p : Timetable) (a b : ℕ) → IsLegal l p → a < b → b < l.degree → p.put a < p.put b
rising l p a b legal lt there =
    let e : a + suc (b - a - 1) ≡ b = omega arith in
    subst (λ (d : ℕ). p.put a < p.put d) e (rise l p a (b - a - 1) legal (omega arith))

around : (l : LineData) (p : Timetable) (a : ℕ) → IsLegal l p → a < l.degree → p.put a < p.put 0 + p.period
around l p a legal there =
    ⊎_elim
    (λ e. let q : p.put a ≡ p.put (l.degree - 1) = ap p.put e in omega (arith, legal.numbered.around))
    (λ ne. omega (arith, legal.numbered.around, rising l p a (l.degree - 1) legal (omega arith) (omega arith)))
    (cases_eq a (l.degree - 1))

less_or_more : (x y : ℕ) → (x ≡ y → ⊥) → (x < y) ⊎ (y < x)
less_or_more x y ne = ⊎_elim (λ lt. inl lt) (λ le. inr (omega arith)) (cases_lt x y)

-- .. and in the whole run
pub puts_rise : (l : LineData) (p : Timetable) (n c d : ℕ) → IsRun l p n → c < d → run_put l p c < run_put l p d
puts_rise l p n c d run lt =
    let r = l.degree in
    let legal = run.legal in
    let a = div-add-mod' c r in
    let b = div-add-mod' d r in
    let low : c % r < r = run.base c in
    let high : d % r < r = run.base d in
    ⊎_elim
    (λ same.
    let e : c / r * r ≡ d / r * r = ap (λ (z : ℕ). z * r) same in
    let g : c / r * p.period ≡ d / r * p.period = ap (λ (z : ℕ). z * p.period) same in
    omega (arith, rising l p (c % r) (d % r) legal (omega arith) high))
    (λ other. ⊎_elim
    (λ before.
    let m : (c / r + 1) * p.period ≤ d / r * p.period = mul-le (c / r + 1) p.period (d / r) p.period (omega arith) (omega arith) in
    let full = around l p (c % r) legal low in
    ⊎_elim
    (λ zero_d. let q : p.put (d % r) ≡ p.put 0 = ap p.put zero_d in omega arith)
    (λ ne. omega (arith, rising l p 0 (d % r) legal (omega arith) high))
    (cases_eq (d % r) 0))
    (λ after. absurd (let m : (d / r + 1) * r ≤ c / r * r = mul-le (d / r + 1) r (c / r) r (omega arith) (omega arith) in omega arith))
    (less_or_more (c / r) (d / r) other))
    (cases_eq (c / r) (d / r))

pub run_plan : (l : LineData) (p : Timetable) (n : ℕ) → IsRun l p n → IsPlan (layout_of l) (run_of l p n)
run_plan l p n run =
    let s = run_of l p n in
    let last = last_stage l in
    record {
      last = refl;
      some_move = omega (arith, run.layout.last.0);
      places = run.layout.places;
      tanks = λ c k v. run.layout.there (run_tank l p c k) k (serves l p n c k run v.1);
      moves = λ c k v. moving l p n c k run v;
      puts = λ c lt. record {
        lowerer = refl;
        setter = refl;
        at_once = refl;
        tank = run.layout.load_only (run_tank l p c 0) (serves l p n c 0 run (omega arith));
      };
      offs = λ c lt. record {
        lifter = last_is last l.hoists (run_hoist l p c) last refl;
        at_once = last_is last (run_off l p c) (run_start l p c) last refl ∙ sym (ap (in_run l p c) (end_last l p (copied l c)));
        tank = run.layout.unload_only (run_tank l p c last) (serves l p n c last run (omega arith));
      };
      rests = λ c k v. rests l p n c k run v.0 v.1;
      in_time = λ c k v. in_time l p n c k run v.0 v.1;
      hold_alone = λ t c k c' k' v v' tank from to from' to'.
          run.windows.held_alone (run_tank l p c' k') t c k c' k' v.0 v'.0
          (record { stage = omega (arith, v.1, run.layout.last.0); tank = tank; from = from; before = to })
          (record { stage = omega (arith, v'.1, run.layout.last.0); tank = refl; from = from'; before = to' });
      carry_alone = λ t c k c' k' v v' by from to from' to'.
          let a : s.lifter c k ≡ run_hoist l p c k = other_is last l.hoists (run_hoist l p c) k v.1 in
          let a' : s.lifter c' k' ≡ run_hoist l p c' k' = other_is last l.hoists (run_hoist l p c') k' v'.1 in
          let b : s.lift c k ≡ run_start l p c k = other_is last (run_off l p c) (run_start l p c) k v.1 in
          let b' : s.lift c' k' ≡ run_start l p c' k' = other_is last (run_off l p c') (run_start l p c') k' v'.1 in
          let e : s.rest c (k + 1) ≡ run_end l p c k = next_is (run_put l p c) (run_end l p c) k in
          let e' : s.rest c' (k' + 1) ≡ run_end l p c' k' = next_is (run_put l p c') (run_end l p c') k' in
          run.windows.carried_alone (run_hoist l p c' k') t c k c' k' v.0 v'.0
          (record { step = omega (arith, v.1); hoist = sym a ∙ by ∙ a'; from = omega arith; before = omega arith })
          (record { step = omega (arith, v'.1); hoist = refl; from = omega arith; before = omega arith });
      numbered = λ c d lt there. puts_rise l p n c d run lt;
    }

pub run_tracked : (l : LineData) (p : Timetable) (n : ℕ) → IsRun l p n
    → IsTracked (layout_of l) (run_of l p n) (position p)
run_tracked l p n run = record {
  within = λ h t lt. (run.legal.track.spaced t).within h lt;
  gap = λ h t lt. (run.legal.track.spaced t).apart h lt;
  moves = λ c k u v le.
      let a : to_last (last_stage l) l.hoists (run_hoist l p c) k ≡ run_hoist l p c k = other_is (last_stage l) l.hoists (run_hoist l p c) k v.1 in
      let e : to_last (last_stage l) (run_off l p c) (run_start l p c) k ≡ run_start l p c k = other_is (last_stage l)
      (run_off l p c) (run_start l p c) k v.1 in
      ap (λ (h : ℕ). position p h ((run_of l p n).lift c k + u)) a ∙ ap (λ (t : ℕ). position p (run_hoist l p c k) (t + u)) e
      ∙ run.windows.along c k u v.0 (omega (arith, v.1)) (subst (λ (d : ℕ). u ≤ d) (ticks_are l p c k) le) ∙ sym (places_are l p c k u);
}
