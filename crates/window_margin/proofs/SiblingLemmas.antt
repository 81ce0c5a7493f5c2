-- Every sibling that has a margin meets its constraints.
use Rattle.std.proofs.Common.{⊎_elim, ◌≡◌, ℕ, zero, suc, ◌+◌, ◌-◌, ◌<◌, ◌≤◌, List, ◌++◌, get_or, take, All, refl, sym, ◌∙◌, ap, subst, arith, ℤ, pos, ◌+ℤ◌, ◌-ℤ◌, ◌*ℤ◌, neg_ℤ, ◌≤ℤ◌, Some, None}
use Rattle.std.specs.Prelude.{Option, IsSome, IfSome, IsSomeAnd, unwrap_or, slice_get, option_map, option_and_then}
use Rattle.std.proofs.lemmas.Int.{ints}
use Rattle.std.proofs.lemmas.List.Elements.{All-append, All-map, All-get_or, All-from_get_or}
use Rattle.hoist_base.specs.LineData.{LineData, stage, last_step, move_number, IsMove, IsVisit}
use Rattle.hoist_base.specs.declared.ids.MoveId.{MoveId}
use Rattle.hoist_base.specs.declared.ids.VisitId.{VisitId}
use Rattle.hoist_base.specs.Valid.{IsLine}
use Rattle.line_model.specs.declared.motion.Motion.{Motion}
use Rattle.line_model.specs.Motion.{motion_between, duration}
use Rattle.line_model.specs.Timetable.{Timetable, motion}
use Rattle.line_model.specs.Legal.{IsLegal}
use Rattle.longest_path.specs.declared.systems.Arc.{Arc}
use Rattle.collision_pairs.specs.declared.span.Span.{Span}
use Rattle.choice_tree.specs.declared.question.Question.{Question}
use Rattle.choice_tree.specs.declared.question.Question.TheVariants.{Assign, TankOrder, HoistOrder, Choose}
use Rattle.choice_tree.specs.declared.question.Decision.{Decision}
use Rattle.choice_tree.specs.declared.constraint.Constraint.{Constraint}
use Rattle.choice_tree.specs.declared.constraint.Constraint.TheVariants.{Min, Max, Entry, Visit, Repeat, Decided}
use Rattle.path_constraints.specs.Tanks.{decision_at, low, high}
use Rattle.path_constraints.specs.declared.rides.Ride.{Ride}
use Rattle.path_constraints.specs.declared.holds.Moment.{Moment}
use Rattle.path_constraints.specs.Hoists.{hoists_reaching, ride_below, clash_between, clash_below}
use Rattle.path_constraints.specs.Holds.{begin_of, end_of, tick_of}
use Rattle.path_constraints.specs.Constraints.{arc_of, min_arc, max_arc, undecided_list, IsConstraint, IsOrder, Keeps}
use Rattle.path_constraints.specs.Questions.{IsBefore, MayClash, Stands, offset_of}
use Rattle.path_constraints.specs.Meets.{ticks_of, durations_of, ride_of, MeetsSpan, Meets, MeetsPath}
use Rattle.path_constraints.proofs.Settled.{low_is, high_is}
use Rattle.path_constraints.proofs.NameLemmas.{from_undecided, in_at}
use Rattle.path_constraints.proofs.HoldLemmas.{begin_same, end_same}
use Rattle.path_constraints.proofs.CoverTankLemmas.{visit_before, visit_after}
use Rattle.path_constraints.proofs.CoverRideLemmas.{ride_settled}
use Rattle.path_constraints.proofs.CoverHoldLemmas.{tick_is, ticks_apart}
use Rattle.path_constraints.proofs.CoverQuestionLemmas.{meets_child}
use Rattle.path_constraints.proofs.CoverLemmas.{cover}
use Rattle.window_margin.specs.Orders.{UseOneTank, CanCollide, own_clash, begin_tick, end_tick, visit_order, move_order}
use Rattle.window_margin.specs.Margins.{IsSibling, HasMargin}
use Rattle.window_margin.specs.Chosen.{IsChosen}
use Rattle.window_margin.specs.Arcs.{share_of, at_period, undecided_arcs, visit_arcs, move_arcs, margin_arcs}
use Rattle.window_margin.proofs.OrderLemmas.{visit_order_is, move_order_is, starts_at, starts_from}
use Rattle.window_margin.proofs.KeepLemmas.{KeepsVisits, KeepsMoves, Collide, visit_arcs_kept, move_arcs_kept}

-- ---- timetables with the same tanks and hoists

pub record SameMoves (l : LineData) (p s : Timetable) : Type 0 where
  pub period : s.period ≡ p.period
  pub hoists : (c k : ℕ) → IsMove l c k → s.hoist c k ≡ p.hoist c k
  pub tanks : (c k : ℕ) → IsVisit l c k → s.tank c k ≡ p.tank c k

pub sibling_same : (l : LineData) (p s : Timetable) → IsSibling l p s → SameMoves l p s
sibling_same l p s sib = record { period = sib.period; hoists = sib.hoists; tanks = sib.tanks }

pub motion_same : (l : LineData) (p s : Timetable) (c k : ℕ) → SameMoves l p s → IsMove l c k
    → motion l s c k ≡ motion l p c k
motion_same l p s c k same move =
    ap (λ (i : ℕ). motion_between l k i (s.tank c (k + 1))) (same.tanks c k (visit_before l c k move))
    ∙ ap (λ (j : ℕ). motion_between l k (p.tank c k) j) (same.tanks c (k + 1) (visit_after l c k move))

pub lasts_same : (l : LineData) (p s : Timetable) (c k : ℕ) → SameMoves l p s → IsMove l c k
    → durations_of l s c k ≡ durations_of l p c k
lasts_same l p s c k same move = ap (λ (m : Motion). duration m) (motion_same l p s c k same move)

pub begin_is : (l : LineData) (p s : Timetable) (v : VisitId) → SameMoves l p s → IsVisit l v.carrier v.stage
    → begin_of l (durations_of l s) v.carrier v.stage ≡ begin_of l (durations_of l p) v.carrier v.stage
begin_is l p s v same visit =
    begin_same l (durations_of l s) (durations_of l p) v.carrier v.stage
    (λ some. lasts_same l p s v.carrier (v.stage - 1) same (visit.0, omega (arith, some, visit.1)))

pub end_is : (l : LineData) (p s : Timetable) (v : VisitId) → IsLine l → SameMoves l p s → IsVisit l v.carrier v.stage
    → end_of l (durations_of l s) v.carrier v.stage ≡ end_of l (durations_of l p) v.carrier v.stage
end_is l p s v line same visit =
    end_same l (durations_of l s) (durations_of l p) v.carrier v.stage
    (lasts_same l p s v.carrier (last_step l) same (visit.0, omega (arith, line.limits.stages.0)))

ride : Motion → ℕ → Ride
ride m h = record { motion = m; hoist = h }

pub ride_same : (l : LineData) (p s : Timetable) (c k : ℕ) → SameMoves l p s → IsMove l c k
    → ride_of l s c k ≡ ride_of l p c k
unfolding ride
ride_same l p s c k same move =
    ap (λ (m : Motion). ride m (s.hoist c k)) (motion_same l p s c k same move) ∙ ap (λ (h : ℕ). ride (motion l p c k) h) (same.hoists c k move)

pub clash_same : (l : LineData) (p s : Timetable) (a b : MoveId) → SameMoves l p s → IsMove l a.carrier a.step
    → IsMove l b.carrier b.step
    → own_clash l s a b ≡ own_clash l p a b
clash_same l p s a b same move move' =
    ap (λ (r : Ride). clash_between l r (ride_of l s b.carrier b.step)) (ride_same l p s a.carrier a.step same move)
    ∙ ap (λ (r : Ride). clash_between l (ride_of l p a.carrier a.step) r) (ride_same l p s b.carrier b.step same move')

-- they meet the same decisions on tanks and hoists
meets_one : (l : LineData) (path : List Decision) (p s : Timetable) (q : Question) (child : ℕ) → SameMoves l p s
    → (IsOrder q → ⊥) → Stands l path q
    → Meets l p q child → Meets l s q child
meets_one l path p s (Assign m) child same none stands h =
    subst (λ (x : Motion). slice_get (hoists_reaching l x) child ≡ Some (s.hoist m.carrier m.step)) (sym (motion_same l p s m.carrier m.step same stands.move))
    (h ∙ ap (λ (x : ℕ). Some x) (sym (same.hoists m.carrier m.step stands.move)))
meets_one l path p s (TankOrder a b q) child same none stands h = absurd (none tt)
meets_one l path p s (HoistOrder a b q) child same none stands h = absurd (none tt)
meets_one l path p s (Choose v) child same none stands h = h ∙ ap (λ (x : ℕ). Some x) (sym (same.tanks v.carrier v.stage stands.visit))

pub meets_same : (l : LineData) (path : List Decision) (p s : Timetable) → IsChosen l p path → SameMoves l p s
    → MeetsPath l s path
meets_same l path p s chosen same i lt =
    meets_one l (take i path) p s (decision_at path i).question (decision_at path i).child same
    (All-get_or (λ (d : Decision). IsOrder d.question → ⊥) path i _ lt chosen.free) (chosen.fits i lt).question.stands (chosen.meets i lt)

-- ---- what the path settles

pub low_own : (l : LineData) (path : List Decision) (p : Timetable) (c k : ℕ) → IsChosen l p path → IsMove l c k
    → low l path c k ≡ durations_of l p c k
low_own l path p c k chosen move =
    low_is l path c k (p.tank c k) (p.tank c (k + 1)) (chosen.tanks c k (visit_before l c k move)) (chosen.tanks c (k + 1) (visit_after l c k move))

pub high_own : (l : LineData) (path : List Decision) (p : Timetable) (c k : ℕ) → IsChosen l p path → IsMove l c k
    → high l path c k ≡ durations_of l p c k
high_own l path p c k chosen move =
    high_is l path c k (p.tank c k) (p.tank c (k + 1)) (chosen.tanks c k (visit_before l c k move)) (chosen.tanks c (k + 1) (visit_after l c k move))

some_ride : (o : Option Ride) (h : ℕ) → option_map (λ (r : Ride). r.hoist) o ≡ Some h → (r : Ride) × (o ≡ Some r)
some_ride None h e = cc
some_ride (Some r) h e = (r, refl)

pub ride_chosen : (l : LineData) (path : List Decision) (p : Timetable) (c k : ℕ) → IsLegal l p → IsChosen l p path
    → IsMove l c k
    → ride_below l path c k ≡ Some (ride_of l p c k)
ride_chosen l path p c k legal chosen move =
    let r = some_ride (ride_below l path c k) (p.hoist c k) (chosen.hoists c k move) in
    r.1 ∙ ap (λ (x : Ride). Some x) (ride_settled l path p c k r.0 legal chosen.meets move r.1)

pub clash_chosen : (l : LineData) (path : List Decision) (p : Timetable) (a b : MoveId) → IsLegal l p
    → IsChosen l p path → IsMove l a.carrier a.step
    → IsMove l b.carrier b.step → clash_below l path a b ≡ own_clash l p a b
clash_chosen l path p a b legal chosen move move' =
    ap (λ (o : Option Ride). option_and_then (λ (x : Ride). option_and_then (λ (y : Ride). clash_between l x y) (ride_below l path b.carrier b.step)) o)
    (ride_chosen l path p a.carrier a.step legal chosen move)
    ∙ ap (λ (o : Option Ride). option_and_then (λ (y : Ride). clash_between l (ride_of l p a.carrier a.step) y) o)
    (ride_chosen l path p b.carrier b.step legal chosen move')

-- ---- the constraints that stand on every path

unshared : (t : ℕ → ℤ) (g n : ℕ) (a : Arc) → Keeps t n a → Keeps t g (at_period n (pos 0) a)
unshared t g n a h = there (t a.from) (t a.to) (a.w +ℤ a.q *ℤ pos n) (pos 0 *ℤ pos g) (omega (arith, ints)) h
  where
    there : (s s' w none : ℤ) → none ≡ pos 0 → (s +ℤ w) ≤ℤ s' → (s +ℤ (w +ℤ none)) ≤ℤ s'
    there s s' w none e h = omega (arith, ints)

given_max : (o : Option ℕ) (P : ℕ → Type 0) → IsSome o → IfSome o P → P (unwrap_or o 0)
given_max None P some h = cc
given_max (Some m) P some h = h

min_kept : (l : LineData) (path : List Decision) (p s : Timetable) (h c k : ℕ) → IsChosen l p path → SameMoves l p s
    → HasMargin l s h
    → (c < l.degree) × (1 ≤ k) × (k ≤ last_step l)
    → Keeps (ticks_of l s) h (at_period p.period (pos 1) (min_arc l path c k))
min_kept l path p s h c k chosen same margin is =
    let here : IsMove l c (k - 1 + 1) = (is.0, omega (arith, is.1, is.2)) in
    let before : IsMove l c (k - 1) = (is.0, omega (arith, is.1, is.2)) in
    let e : k - 1 + 1 ≡ k = omega (arith, is.1) in
    let P : ℕ → Type 0 = λ j. s.start c (k - 1) + durations_of l s c (k - 1) + ((stage l j).min + h) ≤ s.start c j in
    there (ticks_of l s (move_number l c (k - 1))) (ticks_of l s (move_number l c k)) (s.start c (k - 1)) (s.start c k) (low l path c (k - 1))
    (durations_of l s c (k - 1)) (stage l k).min h (pos 0 *ℤ pos p.period) (pos 1 *ℤ pos h)
    (tick_is l s c (k - 1) (omega (arith, before.1))) (tick_is l s c k (omega (arith, is.1, is.2)))
    (low_own l path p c (k - 1) chosen before ∙ sym (lasts_same l p s c (k - 1) same before)) (omega (arith, ints)) (omega (arith, ints))
    (subst P e (margin.least c (k - 1) here))
  where
    there : (t t' : ℤ) (a b d d' m h : ℕ) (none share : ℤ) → t ≡ pos a → t' ≡ pos b → d ≡ d' → none ≡ pos 0
        → share ≡ pos h → a + d' + (m + h) ≤ b
        → (t +ℤ ((pos (d + m) +ℤ none) +ℤ share)) ≤ℤ t'
    there t t' a b d d' m h none share e f g n s le = omega (arith, ints, e, f, g, n, s, le)

max_kept : (l : LineData) (path : List Decision) (p s : Timetable) (h c k : ℕ) → IsChosen l p path → SameMoves l p s
    → HasMargin l s h
    → (c < l.degree) × (1 ≤ k) × (k ≤ last_step l) × IsSome (stage l k).max
    → Keeps (ticks_of l s) h (at_period p.period (pos 1) (max_arc l path c k))
max_kept l path p s h c k chosen same margin is =
    let here : IsMove l c (k - 1 + 1) = (is.0, omega (arith, is.1, is.2)) in
    let before : IsMove l c (k - 1) = (is.0, omega (arith, is.1, is.2)) in
    let e : k - 1 + 1 ≡ k = omega (arith, is.1) in
    let P : ℕ → Type 0 = λ j. IfSome (stage l j).max (λ m. s.start c j + h ≤ s.start c (k - 1) + durations_of l s c (k - 1) + m) in
    there (ticks_of l s (move_number l c (k - 1))) (ticks_of l s (move_number l c k)) (s.start c (k - 1)) (s.start c k) (high l path c (k - 1))
    (durations_of l s c (k - 1)) (unwrap_or (stage l k).max 0) h (pos 0 *ℤ pos p.period) (pos 1 *ℤ pos h)
    (tick_is l s c (k - 1) (omega (arith, before.1))) (tick_is l s c k (omega (arith, is.1, is.2)))
    (high_own l path p c (k - 1) chosen before ∙ sym (lasts_same l p s c (k - 1) same before)) (omega (arith, ints)) (omega (arith, ints))
    (given_max (stage l k).max (λ m. s.start c k + h ≤ s.start c (k - 1) + durations_of l s c (k - 1) + m) is.3 (subst P e (margin.greatest c (k - 1) here)))
  where
    there : (t t' : ℤ) (a b d d' m h : ℕ) (none share : ℤ) → t ≡ pos a → t' ≡ pos b → d ≡ d' → none ≡ pos 0
        → share ≡ pos h → b + h ≤ a + d' + m
        → (t' +ℤ ((neg_ℤ (pos (d + m)) +ℤ none) +ℤ share)) ≤ℤ t
    there t t' a b d d' m h none share e f g n s le = omega (arith, ints, e, f, g, n, s, le)

undecided_kept : (l : LineData) (path : List Decision) (p s : Timetable) (h : ℕ) (t : Constraint) → IsChosen l p path
    → SameMoves l p s → HasMargin l s h
    → IsConstraint l path t → Keeps (ticks_of l s) p.period (arc_of l path t)
    → Keeps (ticks_of l s) h (at_period p.period (share_of t) (arc_of l path t))
undecided_kept l path p s h (Min c k) chosen same margin is kept = min_kept l path p s h c k chosen same margin is
undecided_kept l path p s h (Max c k) chosen same margin is kept = max_kept l path p s h c k chosen same margin is
undecided_kept l path p s h (Entry c) chosen same margin is kept = unshared (ticks_of l s) h p.period (arc_of l path (Entry c)) kept
undecided_kept l path p s h (Visit c k) chosen same margin is kept = unshared (ticks_of l s) h p.period (arc_of l path (Visit c k)) kept
undecided_kept l path p s h (Repeat c k) chosen same margin is kept = unshared (ticks_of l s) h p.period (arc_of l path (Repeat c k)) kept
undecided_kept l path p s h (Decided i) chosen same margin is kept = unshared (ticks_of l s) h p.period (arc_of l path (Decided i)) kept

-- ---- orders

differ : (c k c' k' : ℕ) (q : ℤ) → IsBefore c k c' k' → (c ≡ c') × (k ≡ k') × (q ≡ pos 0) → ⊥
differ c k c' k' q before (e, f, g) = ⊎_elim (λ lt. omega (arith, lt, e)) (λ s. omega (arith, s.1, f)) before

visits_kept : (l : LineData) (p s : Timetable) (a b : VisitId) → IsLine l → 1 ≤ p.period → IsSibling l p s
    → UseOneTank l p a b
    → KeepsVisits l p (ticks_of l s) a b
visits_kept l p s a b line some sib pair =
    let t = ticks_of l s in
    let same = sibling_same l p s sib in
    let q = visit_order l p a b in
    let order = sib.visits a b q pair (visit_order_is l p a b some) in
    let ea : end_tick l s a ≡ tick_of l t (end_of l (durations_of l p) a.carrier a.stage) = ap
    (λ (m : Moment). tick_of l t m) (end_is l p s a line same pair.first) in
    let eb : end_tick l s b ≡ tick_of l t (end_of l (durations_of l p) b.carrier b.stage) = ap
    (λ (m : Moment). tick_of l t m) (end_is l p s b line same pair.second) in
    let ba : begin_tick l s a ≡ tick_of l t (begin_of l (durations_of l p) a.carrier a.stage) = ap
    (λ (m : Moment). tick_of l t m) (begin_is l p s a same pair.first) in
    let bb : begin_tick l s b ≡ tick_of l t (begin_of l (durations_of l p) b.carrier b.stage) = ap
    (λ (m : Moment). tick_of l t m) (begin_is l p s b same pair.second) in
    let n : q *ℤ pos s.period ≡ q *ℤ pos p.period = ap (λ (m : ℕ). q *ℤ pos m) sib.period in
    let n' : (q -ℤ pos 1) *ℤ pos s.period ≡ (q -ℤ pos 1) *ℤ pos p.period = ap (λ (m : ℕ). (q -ℤ pos 1) *ℤ pos m) sib.period in
    let tanks : s.tank a.carrier a.stage ≡ s.tank b.carrier b.stage = sib.tanks a.carrier a.stage pair.first ∙ pair.tank
    ∙ sym (sib.tanks b.carrier b.stage pair.second) in (
      at (end_tick l s a) _ (begin_tick l s b) _ (q *ℤ pos s.period) _ ea bb n order.holds,
      ⊎_elim
          (λ early. let le = order.least (q -ℤ pos 1) early in absurd (omega (arith, ints, le)))
          (λ late. at' (end_tick l s b) _ (begin_tick l s a) _ ((q -ℤ pos 1) *ℤ pos s.period) _ eb ba n' late)
          (ticks_apart l s a.carrier a.stage b.carrier b.stage (q -ℤ pos 1) line sib.legal pair.first pair.second tanks
          (differ a.carrier a.stage b.carrier b.stage (q -ℤ pos 1) pair.before)),
    )
  where
    at : (e e' b b' u u' : ℤ) → e ≡ e' → b ≡ b' → u ≡ u' → e ≤ℤ (b +ℤ u) → e' ≤ℤ (b' +ℤ u')
    at e e' b b' u u' f g h le = omega (arith, ints, f, g, h, le)

    at' : (e e' b b' u u' : ℤ) → e ≡ e' → b ≡ b' → u ≡ u' → (e +ℤ u) ≤ℤ b → (e' +ℤ u') ≤ℤ b'
    at' e e' b b' u u' f g h le = omega (arith, ints, f, g, h, le)

pub can_collide : (l : LineData) (p : Timetable) (a b : MoveId) (span : Span) → Collide l p a b span
    → CanCollide l p a b
can_collide l p a b span pair =
    record { first = pair.first; second = pair.second; before = pair.before; clash = some_of (own_clash l p a b) span pair.clash }
  where
    some_of : (o : Option Span) (x : Span) → o ≡ Some x → IsSome o
    some_of None x e = cc
    some_of (Some y) x e = refl

pub may_clash : (l : LineData) (path : List Decision) (p : Timetable) (a b : MoveId) (span : Span) → IsLegal l p
    → IsChosen l p path → Collide l p a b span
    → MayClash l path a b
may_clash l path p a b span legal chosen pair =
    record {
      first = pair.first;
      second = pair.second;
      before = pair.before;
      clash = subst (λ (o : Option Span). IsSome o) (sym (clash_chosen l path p a b legal chosen pair.first pair.second))
          (can_collide l p a b span pair).clash;
    }

second_move : (l : LineData) (s : Timetable) (a b : MoveId) (q : ℤ) (span : Span) (child : ℕ)
    → own_clash l s a b ≡ Some span
    → (span.after ≤ℤ offset_of l (ticks_of l s) s.period a b q → ⊥) → Meets l s (HoistOrder a b q) child
    → span.before ≤ℤ neg_ℤ (offset_of l (ticks_of l s) s.period a b q)
second_move l s a b q span zero e none h =
    let P : Option Span → Type 0 = λ o. IsSomeAnd o (λ x. MeetsSpan x (offset_of l (ticks_of l s) s.period a b q) 0) in absurd (none (subst P e h))
second_move l s a b q span (suc zero) e none h =
    let P : Option Span → Type 0 = λ o. IsSomeAnd o (λ x. MeetsSpan x (offset_of l (ticks_of l s) s.period a b q) 1) in subst P e h
second_move l s a b q span (suc (suc child)) e none h =
    let P : Option Span → Type 0 = λ o. IsSomeAnd o (λ x. MeetsSpan x (offset_of l (ticks_of l s) s.period a b q) (suc (suc child))) in absurd (subst P e h)

moves_kept : (l : LineData) (path : List Decision) (p s : Timetable) (a b : MoveId) (span : Span) → IsLine l
    → 1 ≤ p.period → IsLegal l p
    → IsChosen l p path → IsSibling l p s → Collide l p a b span → KeepsMoves l p (ticks_of l s) a b span
moves_kept l path p s a b span line some legal chosen sib pair =
    let t = ticks_of l s in
    let same = sibling_same l p s sib in
    let q = move_order l p a b span in
    let order = sib.moves a b q (can_collide l p a b span pair) (move_order_is l p a b span some pair.clash) in
    let own : own_clash l s a b ≡ Some span = clash_same l p s a b same pair.first pair.second ∙ pair.clash in
    let P : ℕ → Type 0 = λ m. span.after ≤ℤ offset_of l t m a b q in
    let Q : ℕ → Type 0 = λ m. span.before ≤ℤ neg_ℤ (offset_of l t m a b (q -ℤ pos 1)) in
    let child = meets_child l path s (HoistOrder a b (q -ℤ pos 1)) line sib.legal (meets_same l path p s chosen same)
    (may_clash l path p a b span legal chosen pair) in (
      subst P sib.period (starts_from l s a b span q own order.holds),
      subst Q sib.period
          (second_move l s a b (q -ℤ pos 1) span child.0 own
          (λ le. let less = order.least (q -ℤ pos 1) (starts_at l s a b span (q -ℤ pos 1) own le) in omega (arith, ints, less)) child.2),
    )

-- ---- all

pub sibling_keeps : (l : LineData) (path : List Decision) (p s : Timetable) (h : ℕ) → IsLine l → 1 ≤ p.period
    → IsLegal l p → IsChosen l p path
    → IsSibling l p s → HasMargin l s h → All (Keeps (ticks_of l s) h) (margin_arcs l p path)
sibling_keeps l path p s h line some legal chosen sib margin =
    let t = ticks_of l s in
    let K : Arc → Type 0 = Keeps t h in
    let u = undecided_list l in
    let same = sibling_same l p s sib in
    let f : Constraint → Arc = λ x. at_period p.period (share_of x) (arc_of l path x) in
    let goes_on = cover l path s line chosen.fits sib.legal (meets_same l path p s chosen same) in
    let first : All K (undecided_arcs l path p.period) =
    All-map K f u
    (All-from_get_or (λ x. K (f x)) u (Entry 0)
    (λ i lt.
    let x = get_or u i (Entry 0) in
    let is = from_undecided l path x (in_at u i (Entry 0) lt) in
    let P : ℕ → Type 0 = λ n. Keeps t n (arc_of l path x) in
    undecided_kept l path p s h x chosen same margin is (subst P sib.period (goes_on.constraints x is)))) in
    All-append K (undecided_arcs l path p.period) (visit_arcs l p ++ move_arcs l p) first
    (All-append K (visit_arcs l p) (move_arcs l p)
    (visit_arcs_kept l p t h (omega (arith, line.limits.stages.0)) (λ a b pair. visits_kept l p s a b line some sib pair))
    (move_arcs_kept l p t h (omega (arith, line.limits.stages.0)) (λ a b span pair. moves_kept l path p s a b span line some legal chosen sib pair)))
