-- What is noted of the moves that begin, and of where the hoists are.
use Rattle.std.proofs.Common.{◌≡◌, ℕ, ◌+◌, ◌*◌, ◌/◌, ◌%◌, ◌≤◌, ◌<◌, Some, List, length, get_or, set, ⊎_elim, sym, refl, ap, subst, ◌∙◌, arith, get_or-set_other, get_or-set_same, length-set}
use Rattle.std.specs.Option.{option_map}
use Rattle.std.proofs.lemmas.Bool.{cases_eq}
use Rattle.std.proofs.lemmas.Nat.{same_from_place}
use Rattle.hoist_base.specs.LineData.{LineData, last_stage, IsMove, move_number, move_count, visit_number, visit_count}
use Rattle.hoist_base.specs.Valid.{IsLine}
use Rattle.hoist_base.proofs.NumberLemmas.{place_below, move_below, visit_below}
use Rattle.line_model.specs.Timetable.{Timetable}
use Rattle.tick_machine.specs.declared.frame.Carry.{Carry}
use Rattle.tick_machine.specs.declared.frame.Frame.{Frame}
use Rattle.tick_machine.specs.Scene.{Scene}
use Rattle.machine_loops.specs.Loops.{raised_carry, Shows}
use Rattle.machine_loops.specs.Lists.{scenes}
use Rattle.machine_loops.specs.Reading.{IsReadable, for_ever, carrier_of, IsSeen, IsBegun, HasMove, MovesTo, PathTo}
use Rattle.machine_loops.specs.declared.seen.Seen.{Seen}
use Rattle.machine_loops.proofs.StepBack.{some_same}
use Rattle.machine_loops.proofs.History.{one_begin}
use Rattle.machine_loops.proofs.Shown.{carry_of}
use Rattle.machine_loops.proofs.LoopLaws.{loops_are_timetables}
use Rattle.machine_loops.proofs.SeenLemmas.{run_of, copy_frame, first_period, next_is, one_turn}
use Rattle.machine_loops.proofs.Raised.{lower_carry}
use Rattle.machine_loops.proofs.ReadLemmas.{before_more, before_next}

-- in a table with rows of w, whatever is written at a place is what f has there
table_keeps : (w : ℕ) (f : ℕ → ℕ → ℕ) (xs : List ℕ) (c k c' k' v : ℕ) → k < w → k' < w → c' * w + k' < length xs
    → v ≡ f c' k'
    → get_or xs (c * w + k) 0 ≡ f c k → get_or (set xs (c' * w + k') v) (c * w + k) 0 ≡ f c k
table_keeps w f xs c k c' k' v lt lt' there value is =
    ⊎_elim
    (λ same.
    let (row, column) = same_from_place c k c' k' w lt lt' same in
    ap (λ (i : ℕ). get_or (set xs (c' * w + k') v) i 0) same ∙ get_or-set_same xs (c' * w + k') v 0 there ∙ value
    ∙ ap (λ (i : ℕ). f i k') (sym row) ∙ ap (f c) (sym column))
    (λ other. get_or-set_other xs (c' * w + k') (c * w + k) v 0 other ∙ is)
    (cases_eq (c * w + k) (c' * w + k'))

-- what the timetable that the frames show says of a move
record Planned (p : Timetable) (c s h : ℕ) (y : Carry) : Type 0 where
  start : s ≡ p.start c y.step
  hoist : h ≡ p.hoist c y.step
  from : y.from ≡ p.tank c y.step
  to : y.to ≡ p.tank c (y.step + 1)

planned : (l : LineData) (frames : List Frame) (p : Timetable) (c s h : ℕ) (y : Carry) → IsLine l → IsReadable l frames
    → Shows l (length frames) (for_ever l frames) p → c < l.degree
    → IsBegun (for_ever l frames) (carrier_of l frames c) s h y
    → Planned p c s h y
planned l frames p c s h y line closed shows lt begun =
    let run = run_of l frames line closed in
    let step = ((run.sound s).carries h y begun.is).step in
    let carrier = begun.carrier in
    let one = one_begin l (length frames) (for_ever l frames) s (p.start c y.step) h (p.hoist c y.step) y
    (carry_of (for_ever l frames) p c y.step) run (omega arith)
    (record { is = begun.is; new = begun.new }) (record { is = shows.begin c y.step lt step; new = refl }) carrier refl in
    record { start = one.tick; hoist = one.hoist; from = ap (λ (z : Carry). z.from) one.carry; to = ap (λ (z : Carry). z.to) one.carry }

-- the lists as the timetable has them
has_move : (l : LineData) (p : Timetable) (c s h : ℕ) (y : Carry) (starts hoists tanks : List ℕ) → Planned p c s h y
    → get_or starts (move_number l c y.step) 0 ≡ p.start c y.step
    → get_or hoists (move_number l c y.step) 0 ≡ p.hoist c y.step
    → get_or tanks (visit_number l c y.step) 0 ≡ p.tank c y.step
    → get_or tanks (visit_number l c (y.step + 1)) 0 ≡ p.tank c (y.step + 1)
    → HasMove l c s h y starts hoists tanks
has_move l p c s h y starts hoists tanks plan a b d e = record {
  start = a ∙ sym plan.start;
  hoist = b ∙ sym plan.hoist;
  from = d ∙ sym plan.from;
  to = e ∙ sym plan.to;
}

-- what is written for a move that begins
record Written (l : LineData) (c s h : ℕ) (y : Carry) (starts hoists tanks starts' hoists' tanks' : List ℕ) : Type 0 where
  start : starts' ≡ set starts (move_number l c y.step) s
  hoist : hoists' ≡ set hoists (move_number l c y.step) h
  tank : tanks' ≡ set (set tanks (visit_number l c y.step) y.from) (visit_number l c (y.step + 1)) y.to

-- a move that is there stays
move_stays : (l : LineData) (p : Timetable) (c s h c' s' h' : ℕ) (y y' : Carry) (starts hoists tanks starts' hoists' tanks' : List ℕ)
    → IsMove l c y.step → IsMove l c' y'.step → Planned p c s h y → Planned p c' s' h' y'
    → length starts ≡ move_count l → length hoists ≡ move_count l → length tanks ≡ visit_count l
    → Written l c' s' h' y' starts hoists tanks starts' hoists' tanks'
    → HasMove l c s h y starts hoists tanks → HasMove l c s h y starts' hoists' tanks'
move_stays l p c s h c' s' h' y y' starts hoists tanks starts' hoists' tanks' move move' plan plan' count_s count_h count_t written has =
    let n = last_stage l in
    let m = length l.stages in
    let k = y.step in
    let k' = y'.step in
    let step = move.1 in
    let step' = move'.1 in
    let there = move_below l c' k' move' in
    let from = visit_below l c' k' (move'.0, omega arith) in
    let to = visit_below l c' (k' + 1) (move'.0, move'.1) in
    let first = set tanks (visit_number l c' k') y'.from in
    let first_count : length first ≡ length tanks = length-set tanks (visit_number l c' k') y'.from in
    has_move l p c s h y starts' hoists' tanks' plan
    (ap (λ (xs : List ℕ). get_or xs (move_number l c k) 0) written.start
    ∙ table_keeps n p.start starts c k c' k' s' (omega arith) (omega arith) (omega arith) plan'.start (has.start ∙ plan.start))
    (ap (λ (xs : List ℕ). get_or xs (move_number l c k) 0) written.hoist
    ∙ table_keeps n p.hoist hoists c k c' k' h' (omega arith) (omega arith) (omega arith) plan'.hoist (has.hoist ∙ plan.hoist))
    (ap (λ (xs : List ℕ). get_or xs (visit_number l c k) 0) written.tank
    ∙ table_keeps m p.tank first c k c' (k' + 1) y'.to (omega arith) (omega arith) (omega arith) plan'.to
    (table_keeps m p.tank tanks c k c' k' y'.from (omega arith) (omega arith) (omega arith) plan'.from (has.from ∙ plan.from)))
    (ap (λ (xs : List ℕ). get_or xs (visit_number l c (k + 1)) 0) written.tank
    ∙ table_keeps m p.tank first c (k + 1) c' (k' + 1) y'.to (omega arith) (omega arith) (omega arith) plan'.to
    (table_keeps m p.tank tanks c (k + 1) c' k' y'.from (omega arith) (omega arith) (omega arith) plan'.from (has.to ∙ plan.to)))

-- the move that is written is there
move_comes : (l : LineData) (c s h : ℕ) (y : Carry) (starts hoists tanks starts' hoists' tanks' : List ℕ)
    → IsMove l c y.step
    → length starts ≡ move_count l → length hoists ≡ move_count l → length tanks ≡ visit_count l
    → Written l c s h y starts hoists tanks starts' hoists' tanks' → HasMove l c s h y starts' hoists' tanks'
move_comes l c s h y starts hoists tanks starts' hoists' tanks' move count_s count_h count_t written =
    let k = y.step in
    let step = move.1 in
    let there = move_below l c k move in
    let from = visit_below l c k (move.0, omega arith) in
    let to = visit_below l c (k + 1) (move.0, move.1) in
    let first = set tanks (visit_number l c k) y.from in
    let first_count : length first ≡ length tanks = length-set tanks (visit_number l c k) y.from in
    let other : visit_number l c k ≡ visit_number l c (k + 1) → ⊥ = λ same. omega arith in
    record {
      start = ap (λ (xs : List ℕ). get_or xs (move_number l c k) 0) written.start ∙ get_or-set_same starts (move_number l c k) s 0 (omega arith);
      hoist = ap (λ (xs : List ℕ). get_or xs (move_number l c k) 0) written.hoist ∙ get_or-set_same hoists (move_number l c k) h 0 (omega arith);
      from = ap (λ (xs : List ℕ). get_or xs (visit_number l c k) 0) written.tank
          ∙ get_or-set_other first (visit_number l c (k + 1)) (visit_number l c k) y.to 0 other
          ∙ get_or-set_same tanks (visit_number l c k) y.from 0 (omega arith);
      to = ap (λ (xs : List ℕ). get_or xs (visit_number l c (k + 1)) 0) written.tank ∙ get_or-set_same first (visit_number l c (k + 1)) y.to 0 (omega arith);
    }

-- the step of a carry is one of the line
pub carry_step : (l : LineData) (frames : List Frame) (t h : ℕ) (y : Carry) → IsLine l → IsReadable l frames
    → t < length frames
    → (scenes frames t).carry h ≡ Some y → y.step + 1 < length l.stages
carry_step l frames t h y line closed lt is =
    let run = run_of l frames line closed in
    let there = ap (λ (f : Scene). f.carry h) (first_period l (length frames) (scenes frames) t lt) ∙ is in
    let step = ((run.sound t).carries h y there).step in
    omega arith

-- a carry that begins in frame t begins so at its tick
begun_at : (l : LineData) (frames : List Frame) (c s j t h : ℕ) (y z : Carry) → 1 ≤ length frames
    → (scenes frames t).carry h ≡ Some y
    → IsBegun (for_ever l frames) c s j z → s % length frames ≡ t → j ≡ h
    → z ≡ raised_carry (s / length frames * l.degree) y
begun_at l frames c s j t h y z some has begun same hoist =
    let now : option_map (raised_carry (s / length frames * l.degree)) ((scenes frames (s % length frames)).carry j) ≡ Some z = begun.is in
    some_same z (raised_carry (s / length frames * l.degree) y)
    (sym now ∙ ap (λ (a : ℕ). option_map (raised_carry (s / length frames * l.degree)) ((scenes frames a).carry j)) same
    ∙ ap (λ (a : ℕ). option_map (raised_carry (s / length frames * l.degree)) ((scenes frames t).carry a)) hoist
    ∙ ap (option_map (raised_carry (s / length frames * l.degree))) has)

pub noted_begin : (l : LineData) (frames : List Frame) (t h : ℕ) (y : Carry) (seen : Seen) (starts hoists tanks starts' hoists' tanks' : List ℕ)
    → IsLine l → IsReadable l frames → t < length frames → (scenes frames t).carry h ≡ Some y → y.elapsed ≡ 0
    → IsSeen l frames t y.carrier seen → MovesTo l frames t h starts hoists tanks
    → starts' ≡ set starts (move_number l seen.carrier y.step) seen.tick
    → hoists' ≡ set hoists (move_number l seen.carrier y.step) h
    → tanks' ≡ set (set tanks (visit_number l seen.carrier y.step) y.from) (visit_number l seen.carrier (y.step + 1)) y.to
    → MovesTo l frames t (h + 1) starts' hoists' tanks'
noted_begin l frames t h y seen starts hoists tanks starts' hoists' tanks' line closed lt has new is moves a b d =
    let (p, is_legal, period, shows) = loops_are_timetables l (length frames) (scenes frames) line closed.loop in
    let run = run_of l frames line closed in
    let written : Written l seen.carrier seen.tick h y starts hoists tanks starts' hoists' tanks' = record { start = a; hoist = b; tank = d } in
    let move : IsMove l seen.carrier y.step = (is.turn.there, carry_step l frames t h y line closed lt has) in
    let z = is.periods in
    let first = next_is l frames 0 (omega arith) in
    let turn = is.turn.same in
    let now : (for_ever l frames seen.tick).carry h ≡ Some (raised_carry (z * l.degree) y) =
    ap (λ (s : ℕ). (for_ever l frames s).carry h) is.tick
    ∙ ap (λ (f : Scene). f.carry h) (copy_frame l (length frames) (scenes frames) t z lt) ∙ ap (option_map (raised_carry (z * l.degree))) has in
    let mine : Planned p seen.carrier seen.tick h (raised_carry (z * l.degree) y) =
    planned l frames p seen.carrier seen.tick h (raised_carry (z * l.degree) y) line closed shows is.turn.there (record { is = now; new = new; carrier = omega arith }) in
    let plan : Planned p seen.carrier seen.tick h y = record { start = mine.start; hoist = mine.hoist; from = mine.from; to = mine.to } in
    record {
      start_count = ap (λ (xs : List ℕ). length xs) a ∙ length-set starts (move_number l seen.carrier y.step) seen.tick ∙ moves.start_count;
      hoist_count = ap (λ (xs : List ℕ). length xs) b ∙ length-set hoists (move_number l seen.carrier y.step) h ∙ moves.hoist_count;
      tank_count = ap (λ (xs : List ℕ). length xs) d ∙ length-set
          (set tanks (visit_number l seen.carrier y.step) y.from) (visit_number l seen.carrier (y.step + 1)) y.to
          ∙ length-set tanks (visit_number l seen.carrier y.step) y.from ∙ moves.tank_count;
      told = λ c s j x there begun read. ⊎_elim
          (λ before.
          let step = ((run.sound s).carries j x begun.is).step in
          move_stays l p c s j seen.carrier seen.tick h x y starts hoists tanks starts' hoists' tanks' (there, omega arith) move
          (planned l frames p c s j x line closed shows there begun) plan moves.start_count moves.hoist_count moves.tank_count written
          (moves.told c s j x there begun before))
          (λ (same, hoist).
          let one = begun_at l frames (carrier_of l frames c) s j t h y x (omega arith) has begun same hoist in
          let carrier = begun.carrier in
          let raised : x.carrier ≡ y.carrier + s / length frames * l.degree = ap (λ (w : Carry). w.carrier) one in
          let at = one_turn l frames y.carrier c s seen (omega arith) there (omega arith) (subst (λ (n : ℕ). IsSeen l frames n y.carrier seen) (sym same) is) in
          let comes = move_comes l seen.carrier seen.tick h y starts hoists tanks starts' hoists' tanks' move
          moves.start_count moves.hoist_count moves.tank_count written in
          let comes_raised : HasMove l seen.carrier seen.tick h (raised_carry (s / length frames * l.degree) y) starts' hoists' tanks' =
          record { start = comes.start; hoist = comes.hoist; from = comes.from; to = comes.to } in
          subst (λ (w : Carry). HasMove l c s j w starts' hoists' tanks') (sym one)
          (subst (λ (n : ℕ). HasMove l c s n (raised_carry (s / length frames * l.degree) y) starts' hoists' tanks') (sym hoist)
          (subst (λ (n : ℕ). HasMove l c n h (raised_carry (s / length frames * l.degree) y) starts' hoists' tanks') (sym at.1)
          (subst (λ (n : ℕ). HasMove l n seen.tick h (raised_carry (s / length frames * l.degree) y) starts' hoists' tanks') (sym at.0) comes_raised))))
          (before_more t h (s % length frames) j read);
    }

-- where hoist h begins nothing
pub no_begin : (l : LineData) (frames : List Frame) (t h : ℕ) (starts hoists tanks : List ℕ)
    → ((y : Carry) → (scenes frames t).carry h ≡ Some y → y.elapsed ≡ 0 → ⊥)
    → MovesTo l frames t h starts hoists tanks → MovesTo l frames t (h + 1) starts hoists tanks
no_begin l frames t h starts hoists tanks none moves = record {
  start_count = moves.start_count;
  hoist_count = moves.hoist_count;
  tank_count = moves.tank_count;
  told = λ c s j x there begun read. ⊎_elim
      (λ before. moves.told c s j x there begun before)
      (λ (same, hoist).
      let low = lower_carry (s / length frames * l.degree) ((scenes frames (s % length frames)).carry j) x begun.is in
      let here : (scenes frames t).carry h ≡ Some low.x =
      ap (scenes frames t).carry (sym hoist) ∙ ap (λ (a : ℕ). (scenes frames a).carry j) (sym same) ∙ low.was in
      absurd (none low.x here (ap (λ (w : Carry). w.elapsed) low.is ∙ begun.new)))
      (before_more t h (s % length frames) j read);
}

pub moves_next : (l : LineData) (frames : List Frame) (t : ℕ) (starts hoists tanks : List ℕ) → IsLine l
    → IsReadable l frames
    → MovesTo l frames t l.hoists starts hoists tanks → MovesTo l frames (t + 1) 0 starts hoists tanks
moves_next l frames t starts hoists tanks line closed moves =
    let run = run_of l frames line closed in
    record {
      start_count = moves.start_count;
      hoist_count = moves.hoist_count;
      tank_count = moves.tank_count;
      told = λ c s j x there begun read. moves.told c s j x there begun
          (before_next t l.hoists (s % length frames) j ((run.sound s).carries j x begun.is).there read);
    }

-- where the hoists are
pub place_noted : (l : LineData) (frames : List Frame) (t h : ℕ) (path : List ℕ) → t < length frames → h < l.hoists
    → PathTo l frames t h path → PathTo l frames t (h + 1) (set path (h * length frames + t) ((scenes frames t).at h))
place_noted l frames t h path lt there told =
    let place = place_below h t l.hoists (length frames) there lt in
    let count = told.count in
    let here = (scenes frames t).at h in
    record {
      count = length-set path (h * length frames + t) here ∙ told.count;
      told = λ j s lt_j lt_s read. ⊎_elim
          (λ before. table_keeps (length frames) (λ (a : ℕ) (b : ℕ). (scenes frames b).at a) path j s h t here lt_s lt
          (omega arith) refl (told.told j s lt_j lt_s before))
          (λ (same, hoist).
          let at : j * length frames + s ≡ h * length frames + t = ap (λ (a : ℕ). a * length frames + s) hoist ∙ ap (λ (b : ℕ). h * length frames + b) same in
          ap (λ (i : ℕ). get_or (set path (h * length frames + t) here) i 0) at ∙ get_or-set_same path (h * length frames + t) here 0 (omega arith)
          ∙ ap (scenes frames t).at (sym hoist) ∙ ap (λ (b : ℕ). (scenes frames b).at j) (sym same))
          (before_more t h s j read);
    }

pub path_next : (l : LineData) (frames : List Frame) (t : ℕ) (path : List ℕ) → PathTo l frames t l.hoists path
    → PathTo l frames (t + 1) 0 path
path_next l frames t path told = record { count = told.count; told = λ j s lt_j lt_s read. told.told j s lt_j lt_s (before_next t l.hoists s j lt_j read) }
