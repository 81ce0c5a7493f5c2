-- Each legal timetable that meets the decisions of a path that fits keeps the constraints that they ask.
use Rattle.std.proofs.Common.{⊎_elim, ◌≡◌, ℕ, zero, suc, ◌+◌, ◌-◌, ◌<◌, List, take, length, refl, sym, ◌∙◌, ap, subst, ℤ, pos, ◌+ℤ◌, ◌-ℤ◌, ◌*ℤ◌, neg_ℤ, ◌≤ℤ◌, arith, Some, None}
use Rattle.std.specs.Prelude.{Option, IsSome, IsSomeAnd, is_some}
use Rattle.std.proofs.lemmas.Bool.{cases_lt}
use Rattle.std.proofs.lemmas.Int.{ints}
use Rattle.hoist_base.specs.LineData.{LineData, stage, last_stage, last_step, move_number, IsMove, IsVisit}
use Rattle.hoist_base.specs.Valid.{IsLine}
use Rattle.hoist_base.specs.declared.ids.MoveId.{MoveId}
use Rattle.hoist_base.specs.declared.ids.VisitId.{VisitId}
use Rattle.line_model.specs.Timetable.{Timetable}
use Rattle.line_model.specs.Legal.{IsLegal}
use Rattle.collision_pairs.specs.declared.span.Span.{Span}
use Rattle.choice_tree.specs.declared.question.Question.{Question}
use Rattle.choice_tree.specs.declared.question.Question.TheVariants.{Assign, TankOrder, HoistOrder, Choose}
use Rattle.choice_tree.specs.declared.question.Decision.{Decision}
use Rattle.path_constraints.specs.Tanks.{decision_at, tank_below, low}
use Rattle.path_constraints.specs.Hoists.{clash_below}
use Rattle.path_constraints.specs.Holds.{Moment, begin_of, end_of, tick_of, periods_later, node_of}
use Rattle.path_constraints.specs.Constraints.{moment_arc, tank_arc, span_arc, decided_arc, IsOrder, Keeps}
use Rattle.path_constraints.specs.Questions.{HasBegin, ShareTank, Stands, FitsPath, offset_of}
use Rattle.path_constraints.specs.Meets.{ticks_of, durations_of, MeetsTankOrder, MeetsSpan, MeetsHoistOrder, Meets, MeetsPath}
use Rattle.path_constraints.proofs.Settled.{tank_stays, clash_stays}
use Rattle.path_constraints.proofs.CoverTankLemmas.{low_settled}
use Rattle.path_constraints.proofs.CoverTrackLemmas.{times_back}
use Rattle.path_constraints.proofs.CoverRideLemmas.{clash_settled}
use Rattle.path_constraints.proofs.CoverHoldLemmas.{moment, begin_first, begin_later, end_last, end_earlier}

pub some_is : {X : Type 0} (o : Option X) → IsSome o → (x : X) × (o ≡ Some x)
some_is None h = cc
some_is (Some x) h = (x, refl)

-- ---- what stands on a part of the path stands on the whole

pub begin_stays : (l : LineData) (path : List Decision) (i c k : ℕ) → FitsPath l path → HasBegin l (take i path) c k
    → HasBegin l path c k
begin_stays l path i c k fits has = λ lt.
    let s = some_is (tank_below l (take i path) c (k - 1)) (has lt) in
    ap (λ (o : Option ℕ). is_some o) (tank_stays l path i c (k - 1) s.0 fits s.1)

pub share_stays : (l : LineData) (path : List Decision) (i : ℕ) (a b : VisitId) → FitsPath l path
    → ShareTank l (take i path) a b → ShareTank l path a b
share_stays l path i a b fits s =
    record {
      first = s.first;
      second = s.second;
      before = s.before;
      tank = s.tank;
      first_tank = tank_stays l path i a.carrier a.stage s.tank fits s.first_tank;
      second_tank = tank_stays l path i b.carrier b.stage s.tank fits s.second_tank;
      first_begin = begin_stays l path i a.carrier a.stage fits s.first_begin;
      second_begin = begin_stays l path i b.carrier b.stage fits s.second_begin;
    }

-- ---- holds that are settled

low_before : (l : LineData) (path : List Decision) (p : Timetable) (c k t : ℕ) → IsLegal l p → MeetsPath l p path
    → IsVisit l c k → 0 < k
    → tank_below l path c k ≡ Some t → HasBegin l path c k → low l path c (k - 1) ≡ durations_of l p c (k - 1)
low_before l path p c k t legal meets visit lt e has =
    let s = some_is (tank_below l path c (k - 1)) (has lt) in
    let back : k ≡ k - 1 + 1 = omega (arith, lt) in
    let P : ℕ → Type 0 = λ j. tank_below l path c j ≡ Some t in
    low_settled l path p c (k - 1) s.0 t legal meets (visit.0, omega (arith, visit.1, lt)) s.1 (subst P back e)

pub begin_settled : (l : LineData) (path : List Decision) (p : Timetable) (c k t : ℕ) → IsLegal l p → MeetsPath l p path
    → IsVisit l c k
    → tank_below l path c k ≡ Some t → HasBegin l path c k
    → begin_of l (low l path) c k ≡ begin_of l (durations_of l p) c k
begin_settled l path p c k t legal meets visit e has =
    ⊎_elim
    (λ lt.
    begin_later l (low l path) c k lt
    ∙ ap (λ (d : ℕ). moment c (k - 1) (pos d -ℤ pos (stage l k).lower)) (low_before l path p c k t legal meets visit lt e has)
    ∙ sym (begin_later l (durations_of l p) c k lt))
    (λ le. let first : k ≡ 0 = omega (arith, le) in begin_first l (low l path) c k first ∙ sym (begin_first l (durations_of l p) c k first))
    (cases_lt 0 k)

pub end_settled : (l : LineData) (path : List Decision) (p : Timetable) (c k t : ℕ) → IsLine l → IsLegal l p
    → MeetsPath l p path → IsVisit l c k
    → tank_below l path c k ≡ Some t → HasBegin l path c k → end_of l (low l path) c k ≡ end_of l (durations_of l p) c k
end_settled l path p c k t line legal meets visit e has =
    ⊎_elim
    (λ lt. end_earlier l (low l path) c k lt ∙ sym (end_earlier l (durations_of l p) c k lt))
    (λ le.
    let last : k ≡ last_stage l = omega (arith, le, visit.1) in
    let lt : 0 < k = omega (arith, last, line.limits.stages.0) in
    let before : k - 1 ≡ last_step l = omega (arith, last) in
    let P : ℕ → Type 0 = λ j. low l path c j ≡ durations_of l p c j in
    end_last l (low l path) c k last
    ∙ ap (λ (d : ℕ). moment c (last_step l) (pos (d + l.unload))) (subst P before (low_before l path p c k t legal meets visit lt e has))
    ∙ sym (end_last l (durations_of l p) c k last))
    (cases_lt k (last_stage l))

-- ---- orders of visits

-- moment y, q periods later, is not before moment x
keeps_moment : (l : LineData) (t : ℕ → ℤ) (period : ℕ) (x y : Moment) (q : ℤ)
    → tick_of l t x ≤ℤ periods_later (tick_of l t y) q period
    → Keeps t period (moment_arc l x y q)
keeps_moment l t period x y q h = before (t (node_of l x)) x.fixed (t (node_of l y)) y.fixed (q *ℤ pos period) (neg_ℤ q *ℤ pos period) (times_back q period) h
  where
    before : (s f s' f' ahead back : ℤ) → back ≡ neg_ℤ ahead → (s +ℤ f) ≤ℤ ((s' +ℤ f') +ℤ ahead)
        → (s +ℤ ((f -ℤ f') +ℤ back)) ≤ℤ s'
    before s f s' f' ahead back e h = omega (arith, ints)

keeps_moments : (l : LineData) (t : ℕ → ℤ) (period : ℕ) (x x' y y' : Moment) (q : ℤ) → x ≡ x' → y ≡ y'
    → tick_of l t x' ≤ℤ periods_later (tick_of l t y') q period → Keeps t period (moment_arc l x y q)
keeps_moments l t period x x' y y' q e f h =
    let K : Moment → Type 0 = λ z. Keeps t period (moment_arc l z y q) in
    let L : Moment → Type 0 = λ z. Keeps t period (moment_arc l x' z q) in
    subst K (sym e) (subst L (sym f) (keeps_moment l t period x' y' q h))

tank_keeps : (l : LineData) (path : List Decision) (p : Timetable) (a b : VisitId) (q : ℤ) (child : ℕ) → IsLine l
    → IsLegal l p → MeetsPath l p path
    → ShareTank l path a b → MeetsTankOrder l p a b q child
    → Keeps (ticks_of l p) p.period (tank_arc l path a b q child)
tank_keeps l path p a b q zero line legal meets s h =
    keeps_moments l (ticks_of l p) p.period (end_of l (low l path) a.carrier a.stage) (end_of l (durations_of l p) a.carrier a.stage)
    (begin_of l (low l path) b.carrier b.stage) (begin_of l (durations_of l p) b.carrier b.stage) q
    (end_settled l path p a.carrier a.stage s.tank line legal meets s.first s.first_tank s.first_begin)
    (begin_settled l path p b.carrier b.stage s.tank legal meets s.second s.second_tank s.second_begin) h
tank_keeps l path p a b q (suc zero) line legal meets s h =
    keeps_moments l (ticks_of l p) p.period (end_of l (low l path) b.carrier b.stage) (end_of l (durations_of l p) b.carrier b.stage)
    (begin_of l (low l path) a.carrier a.stage) (begin_of l (durations_of l p) a.carrier a.stage) (neg_ℤ q)
    (end_settled l path p b.carrier b.stage s.tank line legal meets s.second s.second_tank s.second_begin)
    (begin_settled l path p a.carrier a.stage s.tank legal meets s.first s.first_tank s.first_begin)
    (turned (tick_of l (ticks_of l p) (end_of l (durations_of l p) b.carrier b.stage))
    (tick_of l (ticks_of l p) (begin_of l (durations_of l p) a.carrier a.stage)) (q *ℤ pos p.period) (neg_ℤ q *ℤ pos p.period) (times_back q p.period) h)
  where
    turned : (e b ahead back : ℤ) → back ≡ neg_ℤ ahead → (e +ℤ ahead) ≤ℤ b → e ≤ℤ (b +ℤ back)
    turned e b ahead back f h = omega (arith, ints)
tank_keeps l path p a b q (suc (suc child)) line legal meets s h = absurd h

-- ---- orders of moves

span_keeps : (l : LineData) (t : ℕ → ℤ) (period : ℕ) (a b : MoveId) (q : ℤ) (child : ℕ) (span : Span)
    → MeetsSpan span (offset_of l t period a b q) child
    → Keeps t period (span_arc l a b q child (Some span))
span_keeps l t period a b q zero span h =
    after (t (move_number l a.carrier a.step)) (t (move_number l b.carrier b.step)) span.after (q *ℤ pos period) (neg_ℤ q *ℤ pos period) (times_back q period) h
  where
    after : (s s' w ahead back : ℤ) → back ≡ neg_ℤ ahead → w ≤ℤ ((s' +ℤ ahead) -ℤ s) → (s +ℤ (w +ℤ back)) ≤ℤ s'
    after s s' w ahead back e h = omega (arith, ints)
span_keeps l t period a b q (suc zero) span h =
    before (t (move_number l a.carrier a.step)) (t (move_number l b.carrier b.step)) span.before (q *ℤ pos period) h
  where
    before : (s s' w ahead : ℤ) → w ≤ℤ neg_ℤ ((s' +ℤ ahead) -ℤ s) → (s' +ℤ (w +ℤ ahead)) ≤ℤ s
    before s s' w ahead h = omega (arith, ints)
span_keeps l t period a b q (suc (suc child)) span h = absurd h

hoist_keeps : (l : LineData) (path : List Decision) (p : Timetable) (a b : MoveId) (q : ℤ) (child : ℕ) (span : Span)
    → IsLegal l p → MeetsPath l p path
    → IsMove l a.carrier a.step → IsMove l b.carrier b.step
    → clash_below l path a b ≡ Some span → MeetsHoistOrder l p a b q child
    → Keeps (ticks_of l p) p.period (span_arc l a b q child (clash_below l path a b))
hoist_keeps l path p a b q child span legal meets move move' e h =
    let M : Option Span → Type 0 = λ o. IsSomeAnd o (λ s. MeetsSpan s (offset_of l (ticks_of l p) p.period a b q) child) in
    let K : Option Span → Type 0 = λ o. Keeps (ticks_of l p) p.period (span_arc l a b q child o) in
    subst K (sym e) (span_keeps l (ticks_of l p) p.period a b q child span (subst M (clash_settled l path p a b span legal meets move move' e) h))

-- ---- both

decided_by : (l : LineData) (path : List Decision) (p : Timetable) (i : ℕ) (question : Question) (child : ℕ) → IsLine l
    → FitsPath l path → IsLegal l p
    → MeetsPath l p path → IsOrder question → Stands l (take i path) question → Meets l p question child
    → Keeps (ticks_of l p) p.period (decided_arc l path question child)
decided_by l path p i (Assign m) child line fits legal meets order s h = absurd order
decided_by l path p i (TankOrder a b q) child line fits legal meets order s h = tank_keeps l path p a b q child line legal meets
    (share_stays l path i a b fits s) h
decided_by l path p i (HoistOrder a b q) child line fits legal meets order s h =
    let span = some_is (clash_below l (take i path) a b) s.clash in
    hoist_keeps l path p a b q child span.0 legal meets s.first s.second (clash_stays l path i a b span.0 fits span.1) h
decided_by l path p i (Choose v) child line fits legal meets order s h = absurd order

pub decided_row : (l : LineData) (path : List Decision) (p : Timetable) (i : ℕ) → IsLine l → FitsPath l path
    → IsLegal l p → MeetsPath l p path
    → i < length path → IsOrder (decision_at path i).question
    → Keeps (ticks_of l p) p.period (decided_arc l path (decision_at path i).question (decision_at path i).child)
decided_row l path p i line fits legal meets lt order =
    decided_by l path p i (decision_at path i).question (decision_at path i).child line fits legal meets order (fits i lt).question.stands (meets i lt)
