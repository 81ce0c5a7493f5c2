-- Where no order of visits is left open, no tank is held twice.
use Rattle.std.proofs.Common.{⊎_elim, ◌≡◌, ℕ, ◌+◌, ◌-◌, ◌*◌, ◌<◌, ◌≤◌, List, sym, ◌∙◌, ap, subst, ℤ, pos, ◌+ℤ◌, ◌-ℤ◌, ◌*ℤ◌, neg_ℤ, ◌<ℤ◌, ◌≤ℤ◌, arith, ◌==◌, Some}
use Rattle.std.specs.Prelude.{Option, is_some}
use Rattle.std.proofs.lemmas.Bool.{cases_lt, eq-eqb, ne_eqb}
use Rattle.std.proofs.lemmas.Int.{ints}
use Rattle.hoist_base.specs.LineData.{LineData, stage, last_stage, last_step, move_number, IsMove, IsVisit}
use Rattle.hoist_base.specs.Valid.{IsLine}
use Rattle.hoist_base.specs.declared.ids.VisitId.{VisitId}
use Rattle.line_model.specs.Motion.{duration}
use Rattle.line_model.specs.Timetable.{Timetable, motion}
use Rattle.line_model.specs.Legal.{hold_begin, hold_end, HoldsAt, AreHeldAlone}
use Rattle.choice_tree.specs.declared.question.Question.TheVariants.{TankOrder}
use Rattle.choice_tree.specs.declared.question.Decision.{Decision}
use Rattle.path_constraints.specs.Tanks.{low}
use Rattle.path_constraints.specs.Holds.{begin_of, end_of, tick_of}
use Rattle.path_constraints.specs.Questions.{IsBefore, HasBegin, ShareTank}
use Rattle.path_constraints.proofs.CoverHoldLemmas.{if_true, if_false, begin_first, begin_later, end_last, end_earlier, lower_within}
use Rattle.planning.proofs.Choices.{Settled, low_own}
use Rattle.planning.proofs.Rows.{Timed, around_row, visit_row, last_row}
use Rattle.planning.proofs.Bounds.{carriers_rise}
use Rattle.planning.proofs.Rides.{times_less, no_copy}
use Rattle.planning.proofs.Agreement.{order_cases}

-- Moves start the load time after their ticks, and carriers are put on and taken off without waiting.
pub record Starts (l : LineData) (p : Timetable) (ticks : ℕ → ℤ) : Type 0 where
  pub start : (c k : ℕ) → IsMove l c k → pos (p.start c k) ≡ ticks (move_number l c k) +ℤ pos l.load
  pub put : (c : ℕ) → c < l.degree → p.put c + l.load ≡ p.start c 0
  pub off : (c : ℕ) → c < l.degree
      → p.off c ≡ p.start c (last_step l) + duration (motion l p c (last_step l)) + l.unload

-- ---- begins and ends

pub first_begin : (l : LineData) (p : Timetable) (c k : ℕ) → k ≡ 0 → hold_begin l p c k ≡ p.put c
first_begin l p c k e = if_true (k == 0) (p.put c) (p.start c (k - 1) + duration (motion l p c (k - 1)) - (stage l k).lower) (eq-eqb k 0 e)

pub later_begin : (l : LineData) (p : Timetable) (c k : ℕ) → 0 < k
    → hold_begin l p c k ≡ p.start c (k - 1) + duration (motion l p c (k - 1)) - (stage l k).lower
later_begin l p c k lt =
    if_false (k == 0) (p.put c) (p.start c (k - 1) + duration (motion l p c (k - 1)) - (stage l k).lower) (ne_eqb k 0 (λ e. omega (arith, e, lt)))

pub last_end : (l : LineData) (p : Timetable) (c k : ℕ) → k ≡ last_stage l → hold_end l p c k ≡ p.off c
last_end l p c k e = if_true (k == last_stage l) (p.off c) (p.start c k + (stage l k).lift) (eq-eqb k (last_stage l) e)

pub earlier_end : (l : LineData) (p : Timetable) (c k : ℕ) → k < last_stage l
    → hold_end l p c k ≡ p.start c k + (stage l k).lift
earlier_end l p c k lt =
    if_false (k == last_stage l) (p.off c) (p.start c k + (stage l k).lift) (ne_eqb k (last_stage l) (λ e. omega (arith, e, lt)))

step_before : (l : LineData) (c k : ℕ) → 0 < k → IsVisit l c k → IsMove l c (k - 1)
step_before l c k lt visit = (visit.0, omega (arith, lt, visit.1))

last_move : (l : LineData) (c : ℕ) → IsLine l → c < l.degree → IsMove l c (last_step l)
last_move l c line there = (there, omega (arith, line.limits.stages.0))

-- the begin and the end by the ticks of moves, moved by the load time
begin_is : (l : LineData) (path : List Decision) (p : Timetable) (ticks : ℕ → ℤ) (c k : ℕ) → IsLine l → Settled l path p
    → Starts l p ticks → IsVisit l c k
    → tick_of l ticks (begin_of l (low l path) c k) +ℤ pos l.load ≡ pos (hold_begin l p c k)
begin_is l path p ticks c k line s starts visit =
    ⊎_elim
    (λ lt.
    let before = step_before l c k lt visit in
    by_move (tick_of l ticks (begin_of l (low l path) c k)) (ticks (move_number l c (k - 1))) (low l path c (k - 1)) (duration (motion l p c (k - 1)))
    (stage l k).lower (p.start c (k - 1)) l.load (hold_begin l p c k)
    (ap (tick_of l ticks) (begin_later l (low l path) c k lt)) (low_own l path p c (k - 1) s before) (starts.start c (k - 1) before) (later_begin l p c k lt)
    (lower_within l p c k lt))
    (λ le.
    let e : k ≡ 0 = omega (arith, le) in
    at_load (tick_of l ticks (begin_of l (low l path) c k)) (ticks (move_number l c 0)) l.load (p.start c 0) (p.put c) (hold_begin l p c k)
    (ap (tick_of l ticks) (begin_first l (low l path) c k e)) (starts.start c 0 (visit.0, omega (arith, line.limits.stages.0))) (starts.put c visit.0)
    (first_begin l p c k e))
    (cases_lt 0 k)
  where
    by_move : (m t : ℤ) (d d' lower start load hb : ℕ) → m ≡ t +ℤ (pos d -ℤ pos lower) → d ≡ d'
        → pos start ≡ t +ℤ pos load → hb ≡ start + d' - lower
        → lower ≤ d' → m +ℤ pos load ≡ pos hb
    by_move m t d d' lower start load hb e f g h le = omega (arith, ints, e, f, g, h, le)

    at_load : (m t : ℤ) (load start put hb : ℕ) → m ≡ t +ℤ neg_ℤ (pos load) → pos start ≡ t +ℤ pos load
        → put + load ≡ start → hb ≡ put → m +ℤ pos load ≡ pos hb
    at_load m t load start put hb e f g h = omega (arith, ints, e, f, g, h)

end_is : (l : LineData) (path : List Decision) (p : Timetable) (ticks : ℕ → ℤ) (c k : ℕ) → IsLine l → Settled l path p
    → Starts l p ticks → IsVisit l c k
    → tick_of l ticks (end_of l (low l path) c k) +ℤ pos l.load ≡ pos (hold_end l p c k)
end_is l path p ticks c k line s starts visit =
    ⊎_elim
    (λ lt.
    by_move (tick_of l ticks (end_of l (low l path) c k)) (ticks (move_number l c k)) (stage l k).lift (p.start c k) l.load (hold_end l p c k)
    (ap (tick_of l ticks) (end_earlier l (low l path) c k lt)) (starts.start c k (visit.0, omega (arith, lt))) (earlier_end l p c k lt))
    (λ le.
    let e : k ≡ last_stage l = omega (arith, le, visit.1) in
    let last = last_move l c line visit.0 in
    at_unload (tick_of l ticks (end_of l (low l path) c k)) (ticks (move_number l c (last_step l))) (low l path c (last_step l))
    (duration (motion l p c (last_step l))) l.unload (p.start c (last_step l)) l.load (p.off c) (hold_end l p c k)
    (ap (tick_of l ticks) (end_last l (low l path) c k e)) (low_own l path p c (last_step l) s last) (starts.start c (last_step l) last) (starts.off c visit.0)
    (last_end l p c k e))
    (cases_lt k (last_stage l))
  where
    by_move : (m t : ℤ) (lift start load he : ℕ) → m ≡ t +ℤ pos lift → pos start ≡ t +ℤ pos load → he ≡ start + lift
        → m +ℤ pos load ≡ pos he
    by_move m t lift start load he e f g = omega (arith, ints, e, f, g)

    at_unload : (m t : ℤ) (d d' unload start load off he : ℕ) → m ≡ t +ℤ pos (d + unload) → d ≡ d'
        → pos start ≡ t +ℤ pos load → off ≡ start + d' + unload
        → he ≡ off → m +ℤ pos load ≡ pos he
    at_unload m t d d' unload start load off he e f g h i = omega (arith, ints, e, f, g, h, i)

-- ---- two visits

share_tank : (l : LineData) (path : List Decision) (p : Timetable) (a b : VisitId) → Settled l path p
    → IsVisit l a.carrier a.stage
    → IsVisit l b.carrier b.stage → IsBefore a.carrier a.stage b.carrier b.stage
    → p.tank a.carrier a.stage ≡ p.tank b.carrier b.stage → ShareTank l path a b
share_tank l path p a b s visit visit' before same = record {
  first = visit;
  second = visit';
  before = before;
  tank = p.tank a.carrier a.stage;
  first_tank = s.tank a.carrier a.stage visit;
  second_tank = s.tank b.carrier b.stage visit' ∙ ap (λ (i : ℕ). Some i) (sym same);
  first_begin = begun a.carrier a.stage visit;
  second_begin = begun b.carrier b.stage visit';
}
  where
    begun : (c k : ℕ) → IsVisit l c k → HasBegin l path c k
    begun c k visit = λ lt. ap (λ (o : Option ℕ). is_some o) (s.tank c (k - 1) (visit.0, omega (arith, visit.1)))

never_held_twice : (l : LineData) (path : List Decision) (p : Timetable) (ticks : ℕ → ℤ) (i t c k z c' k' z' : ℕ)
    → IsLine l → Settled l path p
    → Timed l path ticks p.period → Starts l p ticks → IsBefore c k c' k'
    → HoldsAt l p i c k z t → HoldsAt l p i c' k' z' t → ⊥
never_held_twice l path p ticks i t c k z c' k' z' line s timed starts before a b =
    let x : VisitId = record { carrier = c; stage = k } in
    let y : VisitId = record { carrier = c'; stage = k' } in
    let q : ℤ = pos z' -ℤ pos z in
    let less = times_less (pos z') (pos z) p.period in
    let share = share_tank l path p x y s a.visit b.visit before (a.tank ∙ sym b.tank) in
    timed.orders (TankOrder x y q) tt share (
      begins_first (tick_of l ticks (begin_of l (low l path) c' k')) (tick_of l ticks (end_of l (low l path) c k)) (hold_begin l p c' k')
          (hold_end l p c k) l.load (z * p.period) (z' * p.period) t (q *ℤ pos p.period) less
          (begin_is l path p ticks c' k' line s starts b.visit) (end_is l path p ticks c k line s starts a.visit) b.from a.before,
      ends_later (tick_of l ticks (begin_of l (low l path) c k)) (tick_of l ticks (end_of l (low l path) c' k')) (hold_begin l p c k)
          (hold_end l p c' k') l.load (z * p.period) (z' * p.period) t (q *ℤ pos p.period) less
          (begin_is l path p ticks c k line s starts a.visit) (end_is l path p ticks c' k' line s starts b.visit) a.from b.before,
    )
  where
    begins_first : (m n : ℤ) (hb he load turns turns' t : ℕ) (ahead : ℤ) → ahead ≡ pos turns' -ℤ pos turns
        → m +ℤ pos load ≡ pos hb → n +ℤ pos load ≡ pos he
        → hb + turns' ≤ t → t < he + turns → (m +ℤ ahead) <ℤ n
    begins_first m n hb he load turns turns' t ahead e f g from before = omega (arith, ints, e, f, g, from, before)

    ends_later : (m n : ℤ) (hb he load turns turns' t : ℕ) (ahead : ℤ) → ahead ≡ pos turns' -ℤ pos turns
        → m +ℤ pos load ≡ pos hb → n +ℤ pos load ≡ pos he
        → hb + turns ≤ t → t < he + turns' → m <ℤ (n +ℤ ahead)
    ends_later m n hb he load turns turns' t ahead e f g from before = omega (arith, ints, e, f, g, from, before)

-- ---- one visit, again and again

-- the load station has its time in a period
load_fits : (l : LineData) (path : List Decision) (ticks : ℕ → ℤ) (period : ℕ) → IsLine l → Timed l path ticks period
    → l.load + (stage l 0).lift ≤ period
load_fits l path ticks period line t =
    let last : ℕ = l.degree - 1 in
    let some = line.limits.degree.0 in
    let zero_is : ticks (move_number l 0 0) ≡ ticks 0 = ap ticks (omega arith) in
    let up : ticks (move_number l (0 + last) 0) ≡ ticks (move_number l last 0) = ap (λ (x : ℕ). ticks (move_number l x 0)) (omega arith) in
    within (ticks (move_number l 0 0)) (ticks 0) (ticks (move_number l (0 + last) 0)) (ticks (move_number l last 0))
    (l.load + (stage l 0).lift) period zero_is up
    (carriers_rise l path ticks period 0 last t (omega (arith, some))) (around_row l path ticks period last t (omega (arith, some)))
  where
    within : (first zero' a b : ℤ) (w period : ℕ) → first ≡ zero' → a ≡ b → first ≤ℤ a
        → (b +ℤ pos w) ≤ℤ (zero' +ℤ pos period) → w ≤ period
    within first zero' a b w period e f g h = omega (arith, ints, e, f, g, h)

hold_short : (l : LineData) (path : List Decision) (p : Timetable) (ticks : ℕ → ℤ) (c k : ℕ) → IsLine l
    → Settled l path p → Timed l path ticks p.period
    → Starts l p ticks → IsVisit l c k
    → hold_end l p c k ≤ hold_begin l p c k + p.period
hold_short l path p ticks c k line s t starts visit =
    let stages = line.limits.stages.0 in
    ⊎_elim
    (λ lt.
    let before = step_before l c k lt visit in
    let d : ℕ = duration (motion l p c (k - 1)) in
    ⊎_elim
    (λ inner.
    let e : k - 1 + 1 ≡ k = omega (arith, lt) in
    let here : IsMove l c k = (visit.0, omega (arith, inner)) in
    let P : ℕ → Type 0 =
    λ j. (ticks (move_number l c j) +ℤ pos ((stage l j).lift + (stage l j).lower)) ≤ℤ (ticks (move_number l c (k - 1)) +ℤ pos (d + p.period)) in
    let row : P k = subst P e (visit_row l path p ticks p.period c (k - 1) s t (visit.0, omega (arith, inner, lt))) in
    at_tank (ticks (move_number l c k)) (ticks (move_number l c (k - 1))) (stage l k).lift (stage l k).lower d p.period (p.start c k) (p.start c (k - 1)) l.load
    (hold_begin l p c k) (hold_end l p c k)
    row (starts.start c k here) (starts.start c (k - 1) before) (later_begin l p c k lt) (earlier_end l p c k inner))
    (λ last.
    let e : k ≡ last_stage l = omega (arith, last, visit.1) in
    let at : k - 1 ≡ last_step l = omega (arith, e) in
    let lower_is : (stage l k).lower ≡ (stage l (last_stage l)).lower = ap (λ (j : ℕ). (stage l j).lower) e in
    let begun : p.start c (k - 1) + d ≡ p.start c (last_step l) + duration (motion l p c (last_step l)) =
    ap (λ (j : ℕ). p.start c j + duration (motion l p c j)) at in
    at_unload (p.start c (k - 1) + d) (p.start c (last_step l) + duration (motion l p c (last_step l))) (stage l k).lower
    (stage l (last_stage l)).lower l.unload p.period (p.off c) (hold_begin l p c k) (hold_end l p c k)
    begun lower_is (last_row l path ticks p.period line t) (starts.off c visit.0) (later_begin l p c k lt) (last_end l p c k e))
    (cases_lt k (last_stage l)))
    (λ le.
    let e : k ≡ 0 = omega (arith, le) in
    let lift_is : p.start c k + (stage l k).lift ≡ p.start c 0 + (stage l 0).lift = ap (λ (j : ℕ). p.start c j + (stage l j).lift) e in
    omega (arith, first_begin l p c k e, earlier_end l p c k (omega (arith, e, stages)), lift_is, starts.put c visit.0, load_fits l path ticks p.period line t))
    (cases_lt 0 k)
  where
    at_tank : (x y : ℤ) (lift lower d period start start' load hb he : ℕ)
        → (x +ℤ pos (lift + lower)) ≤ℤ (y +ℤ pos (d + period)) → pos start ≡ x +ℤ pos load
        → pos start' ≡ y +ℤ pos load → hb ≡ start' + d - lower → he ≡ start + lift → he ≤ hb + period
    at_tank x y lift lower d period start start' load hb he row e f g h = omega (arith, ints, row, e, f, g, h)

    at_unload : (a b lower lower' unload period off hb he : ℕ) → a ≡ b → lower ≡ lower' → lower' + unload ≤ period
        → off ≡ b + unload → hb ≡ a - lower
        → he ≡ off → he ≤ hb + period
    at_unload a b lower lower' unload period off hb he e f fits g h i = omega (arith, e, f, fits, g, h, i)

pub held_alone : (l : LineData) (path : List Decision) (p : Timetable) (ticks : ℕ → ℤ) → IsLine l → Settled l path p
    → Timed l path ticks p.period
    → Starts l p ticks → AreHeldAlone l p
held_alone l path p ticks line s timed starts i t c k z c' k' z' a b =
    ⊎_elim (λ before. absurd (never_held_twice l path p ticks i t c k z c' k' z' line s timed starts before a b))
    (λ rest.
    ⊎_elim (λ after. absurd (never_held_twice l path p ticks i t c' k' z' c k z line s timed starts after b a))
    (λ (e, f).
    let same : HoldsAt l p i c k z' t = subst (λ y. HoldsAt l p i c y z' t) (sym f) (subst (λ x. HoldsAt l p i x k' z' t) (sym e) b) in (
      e,
      f,
      no_copy (hold_begin l p c k) (hold_end l p c k) p.period z z' t
          (hold_short l path p ticks c k line s timed starts a.visit) a.from a.before same.from same.before,
    ))
    rest)
    (order_cases c k c' k')
