-- What a runner finds by the carriers of one period is what the carriers of the run do.
use Rattle.std.proofs.Common.{◌≡◌, ℕ, ◌+◌, ◌-◌, ◌*◌, ◌/◌, ◌%◌, ◌≤◌, ◌<◌, Bool, Option, Some, None, List, get_or, set, length, ⊎_elim, sym, refl, ap, subst, ◌∙◌, arith}
use Rattle.std.specs.Prelude.{true, false, cond, ◌==◌, ◌&&◌, ◌||◌, nat_lt, is_some}
use Rattle.std.proofs.lemmas.Bool.{cases_lt, cases_eq, eq-eqb, eqb-true, ltb-true, lt-ltb, le-ltb, cond-true, cond-false, and_parts, and_from}
use Rattle.std.proofs.lemmas.Nat.{div-add-mod', div-mul-add, mod-mul-add, mul-le}
use Rattle.std.proofs.lemmas.List.{get_or_past, get_or-set_same, get_or-set_other}
use Rattle.hoist_base.specs.LineData.{LineData, last_stage, IsMove}
use Rattle.line_model.specs.Motion.{duration}
use Rattle.line_model.specs.Timetable.{Timetable, position, motion}
use Rattle.line_model.specs.Legal.{IsLegal, CarriesAt}
use Rattle.line_model.specs.Run.{in_run, run_start, run_hoist, run_tank}
use Rattle.timetable.specs.TimetableData.{TimetableData, timetable_of}
use Rattle.tick_machine.specs.declared.order.Go.TheVariants.{Stay}
use Rattle.tick_machine.specs.declared.order.Order.{Order}
use Rattle.tick_machine.specs.declared.run.Played.{Played}
use Rattle.tick_machine.specs.Layout.{layout_of}
use Rattle.tick_machine.specs.Play.{run, IsPlayed}
use Rattle.tick_machine.specs.Scene.{Command, command_of, IsSizedOrder}
use Rattle.startup_rundown.specs.Picks.{pick, pick_move}
use Rattle.startup_rundown.specs.RunLog.{run_end}
use Rattle.startup_rundown.specs.Driving.{toward, order_into, first_place, IsDoneRun, PlaysThrough}
use Rattle.startup_rundown.specs.Driving as driving
use Rattle.startup_rundown.specs.Runner.{RunnerData, IsRunner, first_tick, last_tick, has_carrier, is_due, is_under_way, begins_at, carries_into, is_loaded, begin_of, takes_off, puts_on, go_of}
use Rattle.startup_rundown.proofs.Picks.{pick_found, hit_not, pick_move_none, pick_move_is, pick_move_found, move_not}
use Rattle.startup_rundown.proofs.RunPlan.{IsRun, run_is}
use Rattle.startup_rundown.proofs.DriveLaw.{some_of, some_if, under, starts_at, one_start}

-- the carrier of the run that copies carrier c so many periods later
record Copy (r : RunnerData) (c turn : ℕ) : Type 0 where
  carrier : ℕ
  there : carrier < r.carriers
  base : carrier % r.line.degree ≡ c
  turns : carrier / r.line.degree ≡ turn

copy_of : (r : RunnerData) (c turn : ℕ) → c < r.line.degree → has_carrier r c turn ≡ true → Copy r c turn
copy_of r c turn lt has =
    let n = r.line.degree in
    let e : turn * n + c ≡ c + turn * n = omega arith in
    record {
      carrier = c + turn * n;
      there = ltb-true (c + turn * n) r.carriers has;
      base = ap (λ (d : ℕ). d % n) (sym e) ∙ mod-mul-add turn n c lt;
      turns = ap (λ (d : ℕ). d / n) (sym e) ∙ div-mul-add turn n c lt;
    }

-- a carrier of the run copies one of the timetable
has_copy : (r : RunnerData) (c : ℕ) → c < r.carriers → has_carrier r (c % r.line.degree) (c / r.line.degree) ≡ true
has_copy r c there =
    let whole = div-add-mod' c r.line.degree in
    lt-ltb (c % r.line.degree + c / r.line.degree * r.line.degree) r.carriers (omega arith)

-- a tick of a carrier comes where it comes for a copy of it
due_copy : (r : RunnerData) (c at t : ℕ) → c < r.line.degree → is_due r c at t ≡ true
    → (e : ℕ) × (e < r.carriers) × (e % r.line.degree ≡ c) × (in_run r.line (timetable_of r.timetable) e at ≡ t)
due_copy r c at t lt due =
    let period = r.timetable.period in
    let q = (t - at) / period in
    ⊎_elim
    (λ before. absurd (let g : is_due r c at t ≡ false = cond-true (nat_lt t at) _ _ (lt-ltb t at before) in cc))
    (λ le.
    let g = cond-false (nat_lt t at) false (((t - at) % period == 0) && has_carrier r c q) (le-ltb t at le) in
    let parts = and_parts ((t - at) % period == 0) (has_carrier r c q) (sym g ∙ due) in
    let rest = eqb-true ((t - at) % period) 0 parts.0 in
    let copy = copy_of r c q lt parts.1 in
    let turns : copy.carrier / r.line.degree * period ≡ q * period = ap (λ (z : ℕ). z * period) copy.turns in
    let whole = div-add-mod' (t - at) period in
    (copy.carrier, copy.there, copy.base, omega arith))
    (cases_lt t at)

copy_due : (r : RunnerData) (c at t : ℕ) → 1 ≤ r.timetable.period → c < r.carriers
    → in_run r.line (timetable_of r.timetable) c at ≡ t → is_due r (c % r.line.degree) at t ≡ true
copy_due r c at t some there here =
    let period = r.timetable.period in
    let z = c / r.line.degree in
    let since : t - at ≡ z * period + 0 = omega arith in
    let rest : (t - at) % period ≡ 0 = ap (λ (d : ℕ). d % period) since ∙ mod-mul-add z period 0 (omega arith) in
    let turn : (t - at) / period ≡ z = ap (λ (d : ℕ). d / period) since ∙ div-mul-add z period 0 (omega arith) in
    let has : has_carrier r (c % r.line.degree) ((t - at) / period) ≡ true = ap (has_carrier r (c % r.line.degree)) turn ∙ has_copy r c there in
    cond-false (nat_lt t at) false (((t - at) % period == 0) && has_carrier r (c % r.line.degree) ((t - at) / period)) (le-ltb t at (omega arith))
    ∙ and_from ((t - at) % period == 0) _ (eq-eqb ((t - at) % period) 0 rest) has

-- and so for what lasts from the tick on
way_copy : (r : RunnerData) (c at long t : ℕ) → c < r.line.degree → is_under_way r c at long t ≡ true
    → (e : ℕ) × (e < r.carriers) × (e % r.line.degree ≡ c) × (in_run r.line (timetable_of r.timetable) e at < t)
    × (t - 1 < in_run r.line (timetable_of r.timetable) e at + long)
way_copy r c at long t lt way =
    let period = r.timetable.period in
    let since = t - 1 - at in
    let q = since / period in
    ⊎_elim
    (λ after.
    let g = cond-true (nat_lt at t) (nat_lt (since % period) long && has_carrier r c q) false (lt-ltb at t after) in
    let parts = and_parts (nat_lt (since % period) long) (has_carrier r c q) (sym g ∙ way) in
    let rest = ltb-true (since % period) long parts.0 in
    let copy = copy_of r c q lt parts.1 in
    let turns : copy.carrier / r.line.degree * period ≡ q * period = ap (λ (z : ℕ). z * period) copy.turns in
    let whole = div-add-mod' since period in
    (copy.carrier, copy.there, copy.base, omega arith, omega arith))
    (λ le. absurd (let g : is_under_way r c at long t ≡ false = cond-false (nat_lt at t) _ _ (le-ltb at t le) in cc))
    (cases_lt at t)

copy_way : (r : RunnerData) (c at long t : ℕ) → long ≤ r.timetable.period → c < r.carriers
    → in_run r.line (timetable_of r.timetable) c at < t → t - 1 < in_run r.line (timetable_of r.timetable) c at + long
    → is_under_way r (c % r.line.degree) at long t ≡ true
copy_way r c at long t short there from before =
    let period = r.timetable.period in
    let z = c / r.line.degree in
    let b = t - 1 - at - z * period in
    let since : t - 1 - at ≡ z * period + b = omega arith in
    let rest : (t - 1 - at) % period ≡ b = ap (λ (d : ℕ). d % period) since ∙ mod-mul-add z period b (omega arith) in
    let turn : (t - 1 - at) / period ≡ z = ap (λ (d : ℕ). d / period) since ∙ div-mul-add z period b (omega arith) in
    let has : has_carrier r (c % r.line.degree) ((t - 1 - at) / period) ≡ true = ap (has_carrier r (c % r.line.degree)) turn ∙ has_copy r c there in
    cond-true (nat_lt at t) (nat_lt ((t - 1 - at) % period) long && has_carrier r (c % r.line.degree) ((t - 1 - at) / period)) false (lt-ltb at t (omega arith))
    ∙ and_from (nat_lt ((t - 1 - at) % period) long) _ (lt-ltb ((t - 1 - at) % period) long (omega arith)) has

-- a carry is no longer than a period, since its hoist carries the next copy then
fits_period : (l : LineData) (p : Timetable) (c k : ℕ) → IsLegal l p → IsMove l c k
    → duration (motion l p c k) ≤ p.period
fits_period l p c k legal move =
    ⊎_elim
    (λ longer.
    let t = p.start c k + p.period in
    let some = legal.period in
    let first : CarriesAt l p (p.hoist c k) c k 0 t = record { move = move; hoist = refl; from = omega arith; before = omega arith } in
    let next : CarriesAt l p (p.hoist c k) c k 1 t = record { move = move; hoist = refl; from = omega arith; before = omega arith } in
    absurd (omega (arith, (legal.carried.alone (p.hoist c k) t c k 0 c k 1 first next).2)))
    (λ le. le)
    (cases_lt p.period (duration (motion l p c k)))

bool_same : (a b : Bool) → (a ≡ true → b ≡ true) → (b ≡ true → a ≡ true) → a ≡ b
bool_same true b to from = sym (to refl)
bool_same false true to from = absurd (let g = from refl in cc)
bool_same false false to from = refl

is_run : (r : RunnerData) → IsRunner r → IsRun r.line (timetable_of r.timetable) r.carriers
is_run r is = run_is r.line (timetable_of r.timetable) r.carriers is.line is.legal

-- a move that starts at the tick, by a copy
starts_copy : (r : RunnerData) (t h e k : ℕ) → IsRunner r → e < r.carriers
    → starts_at r.line (timetable_of r.timetable) t h e k ≡ true → begins_at r t h (e % r.line.degree) k ≡ true
starts_copy r t h e k is there hit =
    let l = r.line in
    let p = timetable_of r.timetable in
    let parts = and_parts (run_hoist l p e k == h) (run_start l p e k == t) hit in
    and_from (run_hoist l p e k == h) (is_due r (e % l.degree) (p.start (e % l.degree) k) t) parts.0
    (copy_due r e (p.start (e % l.degree) k) t is.timetable.period.0 there (eqb-true (run_start l p e k) t parts.1))

copy_starts : (r : RunnerData) (t h c k : ℕ) → c < r.line.degree → begins_at r t h c k ≡ true
    → (e : ℕ) × (e < r.carriers) × (e % r.line.degree ≡ c) × (starts_at r.line (timetable_of r.timetable) t h e k ≡ true)
copy_starts r t h c k lt hit =
    let l = r.line in
    let p = timetable_of r.timetable in
    let parts = and_parts (p.hoist c k == h) (is_due r c (p.start c k) t) hit in
    let copy = due_copy r c (p.start c k) t lt parts.1 in
    let hoist : (run_hoist l p copy.0 k == h) ≡ true = ap (λ (d : ℕ). p.hoist d k == h) copy.2 ∙ parts.0 in
    let start : run_start l p copy.0 k ≡ t = ap (λ (d : ℕ). in_run l p copy.0 (p.start d k)) copy.2 ∙ copy.3 in
    (copy.0, copy.1, copy.2, and_from (run_hoist l p copy.0 k == h) (run_start l p copy.0 k == t) hoist (eq-eqb (run_start l p copy.0 k) t start))

pub begin_is : (r : RunnerData) (t h : ℕ) (o : Option ℕ) → IsRunner r → begin_of r t h ≡ o
    → o ≡ (order_into r.line (timetable_of r.timetable) r.carriers t).begin h
begin_is r t h None is found =
    let l = r.line in
    let p = timetable_of r.timetable in
    let run = is_run r is in
    sym (pick_move_none r.carriers (last_stage l) (starts_at l p t h) (λ c k. run_tank l p c (k + 1)) (λ e k v hit.
    move_not l.degree (last_stage l) (begins_at r t h) (λ c j. p.tank c (j + 1)) (e % l.degree) k (run.base e, v.1) (starts_copy r t h e k is v.0 hit) found))
begin_is r t h (Some v) is found =
    let l = r.line in
    let p = timetable_of r.timetable in
    let run = is_run r is in
    let m = pick_move_found l.degree (last_stage l) (begins_at r t h) (λ c j. p.tank c (j + 1)) v found in
    let c = m.0 in
    let k = m.1 in
    let copy = copy_starts r t h c k m.2.0 m.3 in
    let e = copy.0 in
    let tank : run_tank l p e (k + 1) ≡ v = ap (λ (d : ℕ). p.tank d (k + 1)) copy.2 ∙ m.4 in
    sym (pick_move_is r.carriers (last_stage l) e k (starts_at l p t h) (λ d j. run_tank l p d (j + 1)) (copy.1, m.2.1) copy.3
    (λ d j w other. one_start l p r.carriers t h e k d j run (copy.1, m.2.1) w copy.3 other)
    ∙ ap (λ (i : ℕ). Some i) tank)

pub loaded_is : (r : RunnerData) (t h : ℕ) → IsRunner r
    → is_loaded r t h ≡ driving.is_loaded r.line (timetable_of r.timetable) r.carriers t h
loaded_is r t h is =
    let l = r.line in
    let p = timetable_of r.timetable in
    let run = is_run r is in
    let n = r.carriers in
    let last = last_stage l in
    bool_same (is_loaded r t h) (driving.is_loaded l p n t h)
    (λ yes.
    let v = some_of (pick_move l.degree last (carries_into r t h) (λ c k. c)) yes in
    let m = pick_move_found l.degree last (carries_into r t h) (λ c k. c) v.0 v.1 in
    let c = m.0 in
    let k = m.1 in
    let parts = and_parts (p.hoist c k == h) (is_under_way r c (p.start c k) (duration (motion l p c k)) t) m.3 in
    let copy = way_copy r c (p.start c k) (duration (motion l p c k)) t m.2.0 parts.1 in
    let e = copy.0 in
    let hoist : (run_hoist l p e k == h) ≡ true = ap (λ (d : ℕ). p.hoist d k == h) copy.2 ∙ parts.0 in
    let start : run_start l p e k ≡ in_run l p e (p.start c k) = ap (λ (d : ℕ). in_run l p e (p.start d k)) copy.2 in
    let end : run_end l p e k ≡ in_run l p e (p.start c k) + duration (motion l p c k) = ap
    (λ (d : ℕ). in_run l p e (p.start d k) + duration (motion l p d k)) copy.2 in
    some_if (pick_move n last (under l p t h) (λ d j. d)) (move_not n last (under l p t h) (λ d j. d) e k (copy.1, m.2.1)
    (and_from (run_hoist l p e k == h) _ hoist (and_from (nat_lt (run_start l p e k) t)
    (nat_lt (t - 1) (run_end l p e k)) (lt-ltb (run_start l p e k) t (omega (arith, copy.3)))
    (lt-ltb (t - 1) (run_end l p e k) (omega (arith, copy.4)))))))
    (λ yes.
    let v = some_of (pick_move n last (under l p t h) (λ d j. d)) yes in
    let m = pick_move_found n last (under l p t h) (λ d j. d) v.0 v.1 in
    let e = m.0 in
    let k = m.1 in
    let c = e % l.degree in
    let parts = and_parts (run_hoist l p e k == h) (nat_lt (run_start l p e k) t && nat_lt (t - 1) (run_end l p e k)) m.3 in
    let both = and_parts (nat_lt (run_start l p e k) t) (nat_lt (t - 1) (run_end l p e k)) parts.1 in
    let move : IsMove l c k = (run.base e, omega (arith, m.2.1)) in
    let way = copy_way r e (p.start c k) (duration (motion l p c k)) t (fits_period l p c k is.legal move) m.2.0
    (ltb-true (run_start l p e k) t both.0) (ltb-true (t - 1) (run_end l p e k) both.1) in
    some_if (pick_move l.degree last (carries_into r t h) (λ d j. d)) (move_not l.degree last (carries_into r t h) (λ d j. d) c k (run.base e, m.2.1)
    (and_from (run_hoist l p e k == h) _ parts.0 way)))

-- an off or a put, by a copy
once_is : (r : RunnerData) (t : ℕ) (at : ℕ → ℕ) → IsRunner r
    → is_some (pick r.line.degree (λ c. is_due r c (at c) t) (λ c. c))
    ≡ is_some (pick r.carriers (λ c. in_run r.line (timetable_of r.timetable) c (at (c % r.line.degree)) == t)
    (λ c. c))
once_is r t at is =
    let l = r.line in
    let p = timetable_of r.timetable in
    let n = r.carriers in
    let run = is_run r is in
    let base : ℕ → Bool = λ c. is_due r c (at c) t in
    let whole : ℕ → Bool = λ c. in_run l p c (at (c % l.degree)) == t in
    bool_same (is_some (pick l.degree base (λ c. c))) (is_some (pick n whole (λ c. c)))
    (λ yes.
    let v = some_of (pick l.degree base (λ c. c)) yes in
    let m = pick_found l.degree base (λ c. c) v.0 v.1 in
    let copy = due_copy r m.0 (at m.0) t m.1 m.2 in
    let here : in_run l p copy.0 (at (copy.0 % l.degree)) ≡ t = ap (λ (d : ℕ). in_run l p copy.0 (at d)) copy.2 ∙ copy.3 in
    some_if (pick n whole (λ c. c)) (hit_not n whole (λ c. c) copy.0 copy.1 (eq-eqb (in_run l p copy.0 (at (copy.0 % l.degree))) t here)))
    (λ yes.
    let v = some_of (pick n whole (λ c. c)) yes in
    let m = pick_found n whole (λ c. c) v.0 v.1 in
    let e = m.0 in
    let due = copy_due r e (at (e % l.degree)) t is.timetable.period.0 m.1 (eqb-true (in_run l p e (at (e % l.degree))) t m.2) in
    some_if (pick l.degree base (λ c. c)) (hit_not l.degree base (λ c. c) (e % l.degree) (run.base e) due))

pub off_is : (r : RunnerData) (t : ℕ) → IsRunner r
    → takes_off r t ≡ (order_into r.line (timetable_of r.timetable) r.carriers t).off
off_is r t is = once_is r t (timetable_of r.timetable).off is

pub put_is : (r : RunnerData) (t : ℕ) → IsRunner r
    → puts_on r t ≡ (order_into r.line (timetable_of r.timetable) r.carriers t).put
put_is r t is = once_is r t (timetable_of r.timetable).put is

pub go_is : (r : RunnerData) (t h : ℕ) → IsRunner r
    → go_of r t h ≡ (order_into r.line (timetable_of r.timetable) r.carriers t).go h
go_is r t h is =
    let p = timetable_of r.timetable in
    ap (λ (b : Bool). cond ((t == first_tick r) || b) Stay (toward (position p h (t - 1)) (position p h t))) (loaded_is r t h is)

-- a hoist that isn't there has no path, and no moves
no_path : (r : RunnerData) (t h : ℕ) → IsRunner r → r.line.hoists ≤ h → position (timetable_of r.timetable) h t ≡ 0
no_path r t h is past =
    let m = mul-le r.line.hoists r.timetable.period h r.timetable.period past (omega arith) in
    let count = is.fits.path_count in
    get_or_past r.timetable.path (h * r.timetable.period + t % r.timetable.period) 0 (omega arith)

stay_same : (b : Bool) → cond b Stay Stay ≡ Stay
stay_same true = refl
stay_same false = refl

no_go : (r : RunnerData) (t h : ℕ) → IsRunner r → r.line.hoists ≤ h
    → (order_into r.line (timetable_of r.timetable) r.carriers t).go h ≡ Stay
no_go r t h is past =
    let l = r.line in
    let p = timetable_of r.timetable in
    let b = (t == first_tick r) || driving.is_loaded l p r.carriers t h in
    ap (λ (x : ℕ). cond b Stay (toward x (position p h t))) (no_path r (t - 1) h is past)
    ∙ ap (λ (x : ℕ). cond b Stay (toward 0 x)) (no_path r t h is past)
    ∙ stay_same b

no_begin : (r : RunnerData) (t h : ℕ) → IsRunner r → r.line.hoists ≤ h
    → (order_into r.line (timetable_of r.timetable) r.carriers t).begin h ≡ None
no_begin r t h is past =
    let l = r.line in
    let p = timetable_of r.timetable in
    let run = is_run r is in
    pick_move_none r.carriers (last_stage l) (starts_at l p t h) (λ c k. run_tank l p c (k + 1)) (λ e k v hit.
    let by = eqb-true (run_hoist l p e k) h (and_parts (run_hoist l p e k == h) (run_start l p e k == t) hit).0 in
    let there = is.legal.carried.hoist (e % l.degree) k (run.base e, omega (arith, v.1)) in
    omega arith)

command_same : (a b : Command) → ((h : ℕ) → a.go h ≡ b.go h) → ((h : ℕ) → a.begin h ≡ b.begin h) → a.off ≡ b.off
    → a.put ≡ b.put → a ≡ b
command_same a b go begin off put = λ p. record { go = λ h. go h p; begin = λ h. begin h p; off = off p; put = put p }

-- an order that has for each hoist what the runner finds, and its off and its put, is that of the run
pub order_is : (r : RunnerData) (t : ℕ) (o : Order) → IsRunner r → IsSizedOrder r.line.hoists o
    → ((h : ℕ) → h < r.line.hoists → get_or o.go.items h Stay ≡ go_of r t h)
    → ((h : ℕ) → h < r.line.hoists → get_or o.begin.items h None ≡ begin_of r t h)
    → o.off ≡ takes_off r t → o.put ≡ puts_on r t
    → command_of o ≡ order_into r.line (timetable_of r.timetable) r.carriers t
order_is r t o is sized go begin off put =
    let c = order_into r.line (timetable_of r.timetable) r.carriers t in
    command_same (command_of o) c
    (λ h. ⊎_elim
    (λ lt. go h lt ∙ go_is r t h is)
    (λ past. let long : length o.go.items ≤ h = omega (arith, sized.go) in get_or_past o.go.items h Stay long ∙ sym (no_go r t h is past))
    (cases_lt h r.line.hoists))
    (λ h. ⊎_elim
    (λ lt. begin h lt ∙ begin_is r t h (begin_of r t h) is refl)
    (λ past. let long : length o.begin.items ≤ h = omega (arith, sized.begin) in get_or_past o.begin.items h None long ∙ sym (no_begin r t h is past))
    (cases_lt h r.line.hoists))
    (off ∙ off_is r t is)
    (put ∙ put_is r t is)

-- the value of a runner keeps what the runner keeps
pub kept : (x y : RunnerData) → x ≡ y → IsRunner x → IsRunner y
kept x y same is = subst IsRunner same is

-- a list that is as it should be up to i, with what it should have at i
pub written : {A : Type 0} (f : ℕ → A) (xs : List A) (i : ℕ) (v d : A) → i < length xs → v ≡ f i
    → ((k : ℕ) → k < i → get_or xs k d ≡ f k) → (k : ℕ) → k < i + 1 → get_or (set xs i v) k d ≡ f k
written {A = A} f xs i v d lt is before k below =
    ⊎_elim
    (λ here. ap (λ (j : ℕ). get_or (set xs i v) j d) here ∙ get_or-set_same xs i v d lt ∙ is ∙ sym (ap f here))
    (λ other. get_or-set_other xs i k v d other ∙ before k (omega arith))
    (cases_eq k i)

-- what a machine answers of a runner is what it answers of the run
pub driven_done : (l : LineData) (d : TimetableData) (n : ℕ) (r : RunnerData) (played : Played) → PlaysThrough l (timetable_of d) n → r ≡ record { line = l; timetable = d; carriers = n }
    → IsPlayed (run (layout_of l) (first_place r.line (timetable_of r.timetable))
    (order_into r.line (timetable_of r.timetable) r.carriers) (first_tick r) (last_tick r)) played
    → IsDoneRun l (timetable_of d) n played
driven_done l d n r played done same so =
    done played (subst (λ (q : RunnerData). IsPlayed (run (layout_of l) (first_place q.line (timetable_of q.timetable))
    (order_into q.line (timetable_of q.timetable) q.carriers) (first_tick q) (last_tick q)) played) same so)
