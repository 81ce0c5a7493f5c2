-- The lists that the frames have filled are those of the timetable that they show.
use Rattle.std.proofs.Common.{◌≡◌, ℕ, zero, suc, ◌+◌, ◌-◌, ◌*◌, ◌≤◌, ◌<◌, Some, List, length, get_or, ⊎_elim, inl, sym, refl, ap, subst, ◌∙◌, arith}
use Rattle.std.proofs.lemmas.Bool.{cases_lt}
use Rattle.std.proofs.lemmas.List.{get_or_past}
use Rattle.std.proofs.lemmas.Nat.{mod_below}
use Rattle.hoist_base.specs.LineData.{LineData, last_stage, IsVisit, Serves, move_number, move_count, move_at, visit_number}
use Rattle.hoist_base.specs.Valid.{IsLine}
use Rattle.hoist_base.proofs.NumberLemmas.{move_there, number_of_move}
use Rattle.line_model.specs.Timetable.{Timetable}
use Rattle.line_model.specs.Legal.{IsLegal}
use Rattle.timetable.specs.declared.parts.TimetableParts.{TimetableParts}
use Rattle.timetable.specs.TimetableData.{timetable_of, last_tick, IsTimetableOf}
use Rattle.timetable.specs.PartsData.{data_of}
use Rattle.tick_machine.specs.declared.frame.Frame.{Frame}
use Rattle.tick_machine.specs.Scene.{Scene}
use Rattle.machine_loops.specs.Loops.{IsPutAt, IsOffAt, Shows}
use Rattle.machine_loops.specs.Lists.{scenes}
use Rattle.machine_loops.specs.Reading.{IsReadable, for_ever, carrier_of, IsAfterIn, OffsTo, HasMove, PartsTo}
use Rattle.machine_loops.proofs.StepOn.{IsIn}
use Rattle.machine_loops.proofs.History.{rises}
use Rattle.machine_loops.proofs.Shown.{carry_of, put_before}
use Rattle.machine_loops.proofs.Legality.{legal}
use Rattle.machine_loops.proofs.LoopLaws.{next_after, loops_are_timetables}
use Rattle.machine_loops.proofs.SeenLemmas.{before_off, in_line_soon, run_of, first_period}

-- nothing has been read
pub nothing_read : (l : LineData) (frames : List Frame) (d : TimetableParts) → d.period ≡ length frames
    → length d.put.items ≡ l.degree
    → length d.off.items ≡ l.degree → ((c : ℕ) → c < l.degree → get_or d.off.items c 0 ≡ 0)
    → length d.start.items ≡ move_count l
    → length d.hoist.items ≡ move_count l → length d.tank.items ≡ l.degree * length l.stages
    → length d.path.items ≡ l.hoists * length frames → PartsTo l frames 0 d
nothing_read l frames d period puts offs none starts hoists tanks path = record {
  period = period;
  puts = record {
    count = puts;
    told = λ c s lt le put. let e : s
        ≡ 0 = omega arith in absurd (subst (IsPutAt (for_ever l frames) (carrier_of l frames c)) e put);
  };
  offs = record {
    count = offs;
    after = λ c lt. subst (IsAfterIn (for_ever l frames) (carrier_of l frames c)) (sym (none c lt)) tt;
    carried = λ c s j y lt is carrier read. absurd (⊎_elim (λ less. omega arith) (λ same. omega (arith, same.1)) read);
    rested = λ c s j k age lt is read. absurd (⊎_elim (λ less. omega arith) (λ same. omega (arith, same.1)) read);
  };
  moves = record {
    start_count = starts;
    hoist_count = hoists;
    tank_count = tanks;
    told = λ c s j y lt begun read. absurd (⊎_elim (λ less. omega arith) (λ same. omega (arith, same.1)) read);
  };
  path = record { count = path; told = λ j s lt lt' read. absurd (⊎_elim (λ less. omega arith) (λ same. omega (arith, same.1)) read) };
}

-- when a carrier is taken off
after_before : (l : LineData) (frames : List Frame) (c off x : ℕ) → IsLine l → IsReadable l frames
    → IsOffAt (for_ever l frames) (carrier_of l frames c) off → IsAfterIn (for_ever l frames) (carrier_of l frames c) x
    → x ≤ off
after_before l frames c off zero line closed is after = omega arith
after_before l frames c off (suc s) line closed is after =
    let lt = before_off l (length frames) (for_ever l frames) (carrier_of l frames c) off s (run_of l frames line closed) is after in
    omega arith

off_is : (l : LineData) (frames : List Frame) (c off : ℕ) (offs : List ℕ) → IsLine l → IsReadable l frames
    → c < l.degree
    → OffsTo l frames (length frames) 0 0 offs → IsOffAt (for_ever l frames) (carrier_of l frames c) off
    → get_or offs c 0 ≡ off
off_is l frames c zero offs line closed lt told is = absurd is
off_is l frames c (suc s) offs line closed lt told is =
    let below = after_before l frames c (suc s) (get_or offs c 0) line closed is (told.after c lt) in
    let read = mod_below s (length frames) closed.loop.some in
    let above : s < get_or offs c 0 =
    ⊎_elim
    (λ (h, y, has, carrier). told.carried c s h y lt has carrier (inl read))
    (λ (i, k, age, has). told.rested c s i k age lt has (inl read))
    is.0 in
    omega arith

after_soon : (l : LineData) (frames : List Frame) (c x : ℕ) → IsLine l → IsReadable l frames → c < l.degree
    → IsAfterIn (for_ever l frames) (carrier_of l frames c) x → x ≤ last_tick
after_soon l frames c zero line closed lt after = omega arith
after_soon l frames c (suc s) line closed lt after =
    let soon = in_line_soon l (length frames) (for_ever l frames) c s (run_of l frames line closed) closed.few lt after in
    omega arith

-- the lists have what the timetable p does
record IsThat (l : LineData) (d : TimetableParts) (p : Timetable) : Type 0 where
  put : (c : ℕ) → c < l.degree → get_or d.put.items c 0 ≡ p.put c
  off : (c : ℕ) → c < l.degree → get_or d.off.items c 0 ≡ p.off c
  start : (c k : ℕ) → c < l.degree → k < last_stage l → get_or d.start.items (move_number l c k) 0 ≡ p.start c k
  hoist : (c k : ℕ) → c < l.degree → k < last_stage l → get_or d.hoist.items (move_number l c k) 0 ≡ p.hoist c k
  from : (c k : ℕ) → c < l.degree → k < last_stage l → get_or d.tank.items (visit_number l c k) 0 ≡ p.tank c k
  to : (c k : ℕ) → c < l.degree → k < last_stage l → get_or d.tank.items (visit_number l c (k + 1)) 0 ≡ p.tank c (k + 1)

move_read : (l : LineData) (frames : List Frame) (d : TimetableParts) (p : Timetable) (c k : ℕ) → IsReadable l frames
    → Shows l (length frames) (for_ever l frames) p → PartsTo l frames (length frames) d → c < l.degree
    → k < last_stage l
    → HasMove l c (p.start c k) (p.hoist c k) (carry_of (for_ever l frames) p c k) d.start.items d.hoist.items d.tank.items
move_read l frames d p c k closed shows told lt step =
    told.moves.told c (p.start c k) (p.hoist c k) (carry_of (for_ever l frames) p c k) lt
    (record { is = shows.begin c k lt step; new = refl; carrier = refl }) (inl (mod_below (p.start c k) (length frames) closed.loop.some))

is_that : (l : LineData) (frames : List Frame) (d : TimetableParts) (p : Timetable) → IsLine l → IsReadable l frames
    → Shows l (length frames) (for_ever l frames) p → PartsTo l frames (length frames) d → IsThat l d p
is_that l frames d p line closed shows told = record {
  put = λ c lt.
      let run = run_of l frames line closed in
      let put = shows.put c lt in
      let at = put_before (for_ever l frames) (carrier_of l frames c) (p.put c) put in
      let is = at.is in
      let before = at.before in
      let last = next_after l (length frames) (for_ever l frames) 1 run in
      let soon : p.put c ≤ length frames =
      ⊎_elim (λ less. omega arith)
      (λ le. let up = rises l (length frames) (for_ever l frames) (1 * length frames) at.s run (omega arith) in absurd (omega arith))
      (cases_lt at.s (length frames)) in
      told.puts.told c (p.put c) lt soon put;
  off = λ c lt. off_is l frames c (p.off c) d.off.items line closed lt told.offs (shows.off c lt);
  start = λ c k lt step. (move_read l frames d p c k closed shows told lt step).start;
  hoist = λ c k lt step. (move_read l frames d p c k closed shows told lt step).hoist;
  from = λ c k lt step. (move_read l frames d p c k closed shows told lt step).from;
  to = λ c k lt step. (move_read l frames d p c k closed shows told lt step).to;
}

-- the frames show the timetable of the lists
tank_place : (l : LineData) (tanks : List ℕ) (c k : ℕ) → IsLine l
    → get_or tanks (c * (last_stage l + 1) + k) 0 ≡ get_or tanks (visit_number l c k) 0
tank_place l tanks c k line = let some = line.limits.stages.0 in ap (λ (m : ℕ). get_or tanks (c * m + k) 0) (omega arith)

pub shows_read : (l : LineData) (frames : List Frame) (d : TimetableParts) → IsLine l → IsReadable l frames
    → PartsTo l frames (length frames) d
    → Shows l (length frames) (for_ever l frames) (timetable_of (data_of (last_stage l) d))
shows_read l frames d line closed told =
    let (p, is_legal, period, shows) = loops_are_timetables l (length frames) (scenes frames) line closed.loop in
    let that = is_that l frames d p line closed shows told in
    let t = timetable_of (data_of (last_stage l) d) in
    let all = for_ever l frames in
    record {
      period = told.period;
      put = λ c lt. subst (IsPutAt all (carrier_of l frames c)) (sym (that.put c lt)) (shows.put c lt);
      off = λ c lt. subst (IsOffAt all (carrier_of l frames c)) (sym (that.off c lt)) (shows.off c lt);
      begin = λ c k lt step.
          let from = tank_place l d.tank.items c k line ∙ that.from c k lt step in
          let to = tank_place l d.tank.items c (k + 1) line ∙ that.to c k lt step in
          ap (λ (s : ℕ). (all s).carry (t.hoist c k)) (that.start c k lt step) ∙ ap (all (p.start c k)).carry (that.hoist c k lt step)
          ∙ shows.begin c k lt step
          ∙ ap (λ (i : ℕ). Some (record { carrier = carrier_of l frames c; step = k; elapsed = 0; from = i; to = p.tank c (k + 1) })) (sym from)
          ∙ ap (λ (i : ℕ). Some (record { carrier = carrier_of l frames c; step = k; elapsed = 0; from = t.tank c k; to = i })) (sym to);
      path = λ h s there lt.
          ap (λ (n : ℕ). get_or d.path.items (h * n + s) 0) told.period ∙ told.path.told h s there lt (inl lt)
          ∙ sym (ap (λ (f : Scene). f.at h) (first_period l (length frames) (scenes frames) s lt));
    }

-- so it is legal
pub legal_read : (l : LineData) (frames : List Frame) (d : TimetableParts) → IsLine l → IsReadable l frames
    → PartsTo l frames (length frames) d → IsLegal l (timetable_of (data_of (last_stage l) d))
legal_read l frames d line closed told =
    legal l (length frames) (for_ever l frames) (timetable_of (data_of (last_stage l) d))
    (record { run = run_of l frames line closed; shows = shows_read l frames d line closed told })

-- and it fits the line
start_soon : (l : LineData) (frames : List Frame) (p : Timetable) (c k : ℕ) → IsLine l → IsReadable l frames
    → Shows l (length frames) (for_ever l frames) p → c < l.degree → k < last_stage l → p.start c k ≤ last_tick
start_soon l frames p c k line closed shows lt step =
    let there : IsIn (for_ever l frames (p.start c k)) (carrier_of l frames c) = inl (
      p.hoist c k,
      carry_of (for_ever l frames) p c k,
      shows.begin c k lt step,
      refl,
    ) in
    let soon = in_line_soon l (length frames) (for_ever l frames) c (p.start c k) (run_of l frames line closed) closed.few lt there in
    omega arith

put_soon : (l : LineData) (frames : List Frame) (p : Timetable) (c : ℕ) → IsLine l → IsReadable l frames
    → Shows l (length frames) (for_ever l frames) p → c < l.degree → p.put c ≤ last_tick
put_soon l frames p c line closed shows lt =
    let run = run_of l frames line closed in
    let all = for_ever l frames in
    let at = put_before all (carrier_of l frames c) (p.put c) (shows.put c lt) in
    let before = at.before in
    let after : (all (suc at.s)).next ≡ carrier_of l frames c + 1 = ap (λ (n : ℕ). (all n).next) at.is ∙ at.after in
    let there : IsIn (all (suc at.s)) (carrier_of l frames c) = subst (IsIn (all (suc at.s))) before ((run.passes at.s).put (omega arith)) in
    let soon = in_line_soon l (length frames) all c (suc at.s) run closed.few lt there in
    let is = at.is in
    omega arith

hoist_there : (l : LineData) (frames : List Frame) (p : Timetable) (c k : ℕ) → IsLine l → IsReadable l frames
    → Shows l (length frames) (for_ever l frames) p → c < l.degree → k < last_stage l → p.hoist c k < l.hoists
hoist_there l frames p c k line closed shows lt step =
    (((run_of l frames line closed).sound (p.start c k)).carries (p.hoist c k) (carry_of (for_ever l frames) p c k) (shows.begin c k lt step)).there

tank_serves : (l : LineData) (d : TimetableParts) (p : Timetable) (c k : ℕ) → IsLine l → IsLegal l p → IsThat l d p
    → IsVisit l c k
    → Serves l (get_or d.tank.items (visit_number l c k) 0) k
tank_serves l d p c k line is_legal that v =
    let some = line.limits.stages.0 in
    let there = v.1 in
    ⊎_elim
    (λ below. subst (λ (i : ℕ). Serves l i k) (sym (that.from c k v.0 below)) (is_legal.routed c k v))
    (λ last.
    let e : k - 1 + 1 ≡ k = omega arith in
    subst (λ (j : ℕ). Serves l (get_or d.tank.items (visit_number l c j) 0) j) e
    (subst (λ (i : ℕ). Serves l i (k - 1 + 1)) (sym (that.to c (k - 1) v.0 (omega arith))) (is_legal.routed c (k - 1 + 1) (v.0, omega arith))))
    (cases_lt k (last_stage l))

-- a fact of each number of a list, and of 0
each_or_none : (P : ℕ → Type 0) (xs : List ℕ) → P 0 → ((i : ℕ) → i < length xs → P (get_or xs i 0)) → (i : ℕ)
    → P (get_or xs i 0)
each_or_none P xs none each i = ⊎_elim (λ lt. each i lt) (λ past. subst P (sym (get_or_past xs i 0 past)) none) (cases_lt i (length xs))

-- a fact of each move
each_move : (l : LineData) (P : ℕ → Type 0) (xs : List ℕ) → IsLine l → length xs ≡ move_count l
    → ((c k : ℕ) → c < l.degree → k < last_stage l → P (get_or xs (move_number l c k) 0)) → (i : ℕ) → i < length xs
    → P (get_or xs i 0)
each_move l P xs line count each i lt =
    let there = move_there l i line (omega arith) in
    let step = there.1 in
    subst (λ (j : ℕ). P (get_or xs j 0)) (number_of_move l i) (each (move_at l i).carrier (move_at l i).step there.0 (omega arith))

pub fits_read : (l : LineData) (frames : List Frame) (d : TimetableParts) → IsLine l → IsReadable l frames
    → PartsTo l frames (length frames) d → IsTimetableOf l (data_of (last_stage l) d)
fits_read l frames d line closed told =
    let (p, is_legal, period, shows) = loops_are_timetables l (length frames) (scenes frames) line closed.loop in
    let that = is_that l frames d p line closed shows told in
    let some = closed.loop.some in
    let few = closed.few in
    let e = told.period in
    let counts = told.puts.count in
    let IsTick : ℕ → Type 0 = λ x. x ≤ last_tick in
    let IsHoist : ℕ → Type 0 = λ x. x < l.hoists in
    record {
      fits = record {
        steps = refl;
        put_count = told.puts.count;
        off_count = told.offs.count;
        start_count = told.moves.start_count;
        hoist_count = told.moves.hoist_count;
        path_count = told.path.count ∙ ap (λ (n : ℕ). l.hoists * n) (sym told.period);
        route = record { count = told.moves.tank_count; serves = λ c k v. tank_serves l d p c k line is_legal that v };
      };
      period = (omega arith, omega arith);
      put_ticks = each_or_none IsTick d.put.items (omega arith) (λ c lt.
          let there : c < l.degree = omega arith in
          subst IsTick (sym (that.put c there)) (put_soon l frames p c line closed shows there));
      off_ticks = each_or_none IsTick d.off.items (omega arith) (λ c lt.
          let count = told.offs.count in
          let there : c < l.degree = omega arith in
          after_soon l frames c (get_or d.off.items c 0) line closed there (told.offs.after c there));
      start_ticks = each_or_none IsTick d.start.items (omega arith) (each_move l IsTick d.start.items line told.moves.start_count (λ c k lt step.
          subst IsTick (sym (that.start c k lt step)) (start_soon l frames p c k line closed shows lt step)));
      hoists = each_move l IsHoist d.hoist.items line told.moves.hoist_count (λ c k lt step.
          subst IsHoist (sym (that.hoist c k lt step)) (hoist_there l frames p c k line closed shows lt step));
    }
