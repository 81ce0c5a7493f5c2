-- Ticks that meet the constraints of a margin leave no order open, and a legal timetable that starts its moves by them
-- is a sibling with it.
use Rattle.std.proofs.Common.{⊎_elim, ◌≡◌, ℕ, ◌+◌, ◌-◌, ◌≤◌, List, ◌++◌, get_or, map, All, refl, sym, ◌∙◌, ap, subst, arith, ℤ, pos, ◌+ℤ◌, ◌-ℤ◌, ◌*ℤ◌, neg_ℤ, ◌≤ℤ◌, ◌<ℤ◌, Some, None, Bool, cond, true, false, eq-eqb}
use Rattle.std.specs.Prelude.{Option, IsSome, IfSome, IsSomeAnd, unwrap_or, ◌==◌}
use Rattle.std.proofs.lemmas.Int.{ints, by_lt_z}
use Rattle.std.proofs.lemmas.Bool.{cases_eq, ne_eqb}
use Rattle.std.proofs.lemmas.List.{append-nil, get_or-map, length-map}
use Rattle.std.proofs.lemmas.List.Elements.{All-get_or}
use Rattle.list_facts.proofs.Products.{times_mono}
use Rattle.hoist_base.specs.LineData.{LineData, stage, last_stage, last_step, move_number, IsMove, IsVisit, IsStep}
use Rattle.hoist_base.specs.declared.ids.MoveId.{MoveId}
use Rattle.hoist_base.specs.declared.ids.VisitId.{VisitId}
use Rattle.hoist_base.specs.Valid.{IsLine}
use Rattle.line_model.specs.Timetable.{Timetable, motion}
use Rattle.line_model.specs.Legal.{IsLegal}
use Rattle.longest_path.specs.declared.systems.Arc.{Arc}
use Rattle.collision_pairs.specs.declared.span.Span.{Span}
use Rattle.collision_pairs.specs.Clash.{IsTight}
use Rattle.collision_pairs.proofs.ClashLemmas.{are_tight}
use Rattle.choice_tree.specs.declared.question.Question.{Question}
use Rattle.choice_tree.specs.declared.question.Question.TheVariants.{Assign, TankOrder, HoistOrder, Choose}
use Rattle.choice_tree.specs.declared.question.Decision.{Decision}
use Rattle.choice_tree.specs.declared.constraint.Constraint.{Constraint}
use Rattle.choice_tree.specs.declared.constraint.Constraint.TheVariants.{Min, Max, Entry, Visit, Repeat, Decided}
use Rattle.path_constraints.specs.Tanks.{low, high, tank_below}
use Rattle.path_constraints.specs.declared.holds.Moment.{Moment}
use Rattle.path_constraints.specs.Hoists.{clash_below}
use Rattle.path_constraints.specs.Holds.{begin_of, end_of, tick_of, node_of}
use Rattle.path_constraints.specs.Constraints.{no_arc, arc_of, undecided_list, constraint_list, IsConstraint, IsOrder, Keeps}
use Rattle.path_constraints.specs.Questions.{ShareTank, MayClash, Stands, Fails, offset_of}
use Rattle.path_constraints.specs.Meets.{ticks_of, durations_of}
use Rattle.path_constraints.proofs.NameLemmas.{In, in_list, place_in}
use Rattle.path_constraints.proofs.CoverDecidedLemmas.{some_is, begin_settled, end_settled}
use Rattle.path_constraints.proofs.CoverHoldLemmas.{tick_is}
use Rattle.path_constraints.proofs.CoverQuestionLemmas.{is_motion}
use Rattle.window_margin.specs.Orders.{UseOneTank, own_clash, begin_tick, end_tick, BeginsAfter, StartsAfter, IsVisitOrder, IsMoveOrder, visit_order, move_order}
use Rattle.window_margin.specs.Margins.{IsSibling, HasMargin}
use Rattle.window_margin.specs.Chosen.{IsChosen}
use Rattle.window_margin.specs.Found.{StartsBy}
use Rattle.window_margin.specs.Arcs.{share_of, at_period, undecided_arcs, visit_arcs, move_arcs, margin_arcs}
use Rattle.window_margin.proofs.ChosenLemmas.{none_decided}
use Rattle.window_margin.proofs.OrderLemmas.{never_together, one_least, visit_order_is, move_order_is, starts_at, starts_from}
use Rattle.window_margin.proofs.KeepLemmas.{KeepsVisits, KeepsMoves, Collide, split_all, visit_arcs_keep, move_arcs_keep}
use Rattle.window_margin.proofs.SiblingLemmas.{SameMoves, lasts_same, begin_is, end_is, clash_same, low_own, high_own, clash_chosen}

-- ---- the constraints that stand on every path

-- a constraint with its share, by its name
pub shared_kept : (l : LineData) (path : List Decision) (p : Timetable) (t : ℕ → ℤ) (g : ℕ) (x : Constraint) → IsLine l
    → IsChosen l p path
    → All (Keeps t g) (margin_arcs l p path) → IsConstraint l path x
    → Keeps t g (at_period p.period (share_of x) (arc_of l path x))
shared_kept l path p t g x line chosen all is =
    let u = undecided_list l in
    let f : Constraint → Arc = λ y. at_period p.period (share_of y) (arc_of l path y) in
    let first = (split_all (Keeps t g) (undecided_arcs l path p.period) (visit_arcs l p ++ move_arcs l p) all).0 in
    let names : constraint_list l path ≡ u = ap (λ (ts : List Constraint). u ++ ts) (none_decided 0 path chosen.free) ∙ append-nil u in
    let there : In u x = subst (λ (ts : List Constraint). In ts x) names (in_list l path x line.limits.stages.0 is) in
    let r = place_in u x (Entry 0) there in
    let at : get_or (map f u) r.0 no_arc ≡ f x = get_or-map f u r.0 (Entry 0) no_arc r.1 ∙ ap f r.2 in
    subst (λ (a : Arc). Keeps t g a) at (All-get_or (Keeps t g) (map f u) r.0 no_arc (omega (arith, r.1, length-map u f)) first)

plain : (t : ℕ → ℤ) (g n : ℕ) (share : ℤ) (a : Arc) → pos 0 ≤ℤ (share *ℤ pos g) → Keeps t g (at_period n share a)
    → Keeps t n a
plain t g n share a some h = there (t a.from) (t a.to) (a.w +ℤ a.q *ℤ pos n) (share *ℤ pos g) some h
  where
    there : (s s' w more : ℤ) → pos 0 ≤ℤ more → (s +ℤ (w +ℤ more)) ≤ℤ s' → (s +ℤ w) ≤ℤ s'
    there s s' w more some h = omega (arith, ints)

share_some : (x : Constraint) (g : ℕ) → pos 0 ≤ℤ (share_of x *ℤ pos g)
share_some (Min c k) g = omega (arith, ints)
share_some (Max c k) g = omega (arith, ints)
share_some (Entry c) g = omega (arith, ints)
share_some (Visit c k) g = omega (arith, ints)
share_some (Repeat c k) g = omega (arith, ints)
share_some (Decided i) g = omega (arith, ints)

pub undecided_met : (l : LineData) (path : List Decision) (p : Timetable) (t : ℕ → ℤ) (g : ℕ) (x : Constraint)
    → IsLine l → IsChosen l p path
    → All (Keeps t g) (margin_arcs l p path) → IsConstraint l path x → Keeps t p.period (arc_of l path x)
undecided_met l path p t g x line chosen all is =
    plain t g p.period (share_of x) (arc_of l path x) (share_some x g) (shared_kept l path p t g x line chosen all is)

-- ---- no order fails

pub orders_visits : (l : LineData) (path : List Decision) (p : Timetable) (t : ℕ → ℤ) (g : ℕ)
    → All (Keeps t g) (margin_arcs l p path) → (a b : VisitId)
    → UseOneTank l p a b → KeepsVisits l p t a b
orders_visits l path p t g all a b pair =
    let K : Arc → Type 0 = Keeps t g in
    let rest = (split_all K (undecided_arcs l path p.period) (visit_arcs l p ++ move_arcs l p) all).1 in
    visit_arcs_keep l p t g (split_all K (visit_arcs l p) (move_arcs l p) rest).0 a b pair

pub orders_moves : (l : LineData) (path : List Decision) (p : Timetable) (t : ℕ → ℤ) (g : ℕ)
    → All (Keeps t g) (margin_arcs l p path) → (a b : MoveId) (span : Span)
    → Collide l p a b span → KeepsMoves l p t a b span
orders_moves l path p t g all a b span pair =
    let K : Arc → Type 0 = Keeps t g in
    let rest = (split_all K (undecided_arcs l path p.period) (visit_arcs l p ++ move_arcs l p) all).1 in
    move_arcs_keep l p t g (split_all K (visit_arcs l p) (move_arcs l p) rest).1 a b span pair

same_some : (o : Option ℕ) (x y : ℕ) → o ≡ Some x → o ≡ Some y → x ≡ y
same_some None x y e f = cc
same_some (Some z) x y e f = cc

tank_fails : (l : LineData) (path : List Decision) (p : Timetable) (t : ℕ → ℤ) (g : ℕ) (a b : VisitId) (z : ℤ)
    → IsLine l → IsLegal l p → IsChosen l p path
    → All (Keeps t g) (margin_arcs l p path) → ShareTank l path a b → Fails l path t p.period (TankOrder a b z) → ⊥
tank_fails l path p t g a b z line legal chosen all s fails =
    let ta : s.tank ≡ p.tank a.carrier a.stage = same_some (tank_below l path a.carrier a.stage) s.tank _ s.first_tank
    (chosen.tanks a.carrier a.stage s.first) in
    let tb : s.tank ≡ p.tank b.carrier b.stage = same_some (tank_below l path b.carrier b.stage) s.tank _ s.second_tank
    (chosen.tanks b.carrier b.stage s.second) in
    let pair : UseOneTank l p a b = record { first = s.first; second = s.second; before = s.before; tank = sym ta ∙ tb } in
    let k = orders_visits l path p t g all a b pair in
    let ea = ap (λ (m : Moment). tick_of l t m) (end_settled l path p a.carrier a.stage s.tank line legal chosen.meets s.first s.first_tank s.first_begin) in
    let eb = ap (λ (m : Moment). tick_of l t m) (end_settled l path p b.carrier b.stage s.tank line legal chosen.meets s.second s.second_tank s.second_begin) in
    let ba = ap (λ (m : Moment). tick_of l t m) (begin_settled l path p a.carrier a.stage s.tank legal chosen.meets s.first s.first_tank s.first_begin) in
    let bb = ap (λ (m : Moment). tick_of l t m) (begin_settled l path p b.carrier b.stage s.tank legal chosen.meets s.second s.second_tank s.second_begin) in
    never_together (tick_of l t (begin_of l (durations_of l p) a.carrier a.stage)) (tick_of l t (end_of l (durations_of l p) a.carrier a.stage))
    (tick_of l t (begin_of l (durations_of l p) b.carrier b.stage)) (tick_of l t (end_of l (durations_of l p) b.carrier b.stage))
    (visit_order l p a b) z p.period k.0 k.1
    (one _ _ _ _ (z *ℤ pos p.period) bb ea fails.0) (two _ _ _ _ (z *ℤ pos p.period) ba eb fails.1)
  where
    one : (b b' e e' u : ℤ) → b ≡ b' → e ≡ e' → (b +ℤ u) <ℤ e → (b' +ℤ u) <ℤ e'
    one b b' e e' u f h lt = omega (arith, ints, f, h, lt)

    two : (b b' e e' u : ℤ) → b ≡ b' → e ≡ e' → b <ℤ (e +ℤ u) → b' <ℤ (e' +ℤ u)
    two b b' e e' u f h lt = omega (arith, ints, f, h, lt)

-- no offset that comes neither way
never_between : (s s' after before q z : ℤ) (n : ℕ) → after ≤ℤ ((s' +ℤ q *ℤ pos n) -ℤ s)
    → before ≤ℤ neg_ℤ ((s' +ℤ (q -ℤ pos 1) *ℤ pos n) -ℤ s)
    → neg_ℤ before <ℤ ((s' +ℤ z *ℤ pos n) -ℤ s) → ((s' +ℤ z *ℤ pos n) -ℤ s) <ℤ after → ⊥
never_between s s' after before q z n first second one two =
    by_lt_z z q
    (λ lt.
    let less : z ≤ℤ (q -ℤ pos 1) = omega (arith, ints, lt) in
    early s s' before (z *ℤ pos n) ((q -ℤ pos 1) *ℤ pos n) (times_mono z (q -ℤ pos 1) n less) second one)
    (λ ge. late s s' after (z *ℤ pos n) (q *ℤ pos n) (times_mono q z n ge) first two)
  where
    early : (s s' w t u : ℤ) → t ≤ℤ u → w ≤ℤ neg_ℤ ((s' +ℤ u) -ℤ s) → neg_ℤ w <ℤ ((s' +ℤ t) -ℤ s) → ⊥
    early s s' w t u f g h = omega (arith, ints)

    late : (s s' w t u : ℤ) → u ≤ℤ t → w ≤ℤ ((s' +ℤ u) -ℤ s) → ((s' +ℤ t) -ℤ s) <ℤ w → ⊥
    late s s' w t u f g h = omega (arith, ints)

hoist_fails : (l : LineData) (path : List Decision) (p : Timetable) (t : ℕ → ℤ) (g : ℕ) (a b : MoveId) (z : ℤ)
    → IsLegal l p → IsChosen l p path
    → All (Keeps t g) (margin_arcs l p path) → MayClash l path a b → Fails l path t p.period (HoistOrder a b z) → ⊥
hoist_fails l path p t g a b z legal chosen all s fails =
    let c = some_is (clash_below l path a b) s.clash in
    let own : own_clash l p a b ≡ Some c.0 = sym (clash_chosen l path p a b legal chosen s.first s.second) ∙ c.1 in
    let pair : Collide l p a b c.0 = record { first = s.first; second = s.second; before = s.before; clash = own } in
    let k = orders_moves l path p t g all a b c.0 pair in
    let P : Option Span → Type 0 = λ o. IsSomeAnd o (λ span. (neg_ℤ span.before <ℤ offset_of l t p.period a b z)
    × (offset_of l t p.period a b z <ℤ span.after)) in
    let f = subst P c.1 fails in
    never_between (t (move_number l a.carrier a.step)) (t (move_number l b.carrier b.step)) c.0.after c.0.before
    (move_order l p a b c.0) z p.period k.0 k.1 f.0 f.1

pub none_fails : (l : LineData) (path : List Decision) (p : Timetable) (t : ℕ → ℤ) (g : ℕ) (x : Question) → IsLine l
    → IsLegal l p → IsChosen l p path
    → All (Keeps t g) (margin_arcs l p path) → IsOrder x → Stands l path x → Fails l path t p.period x → ⊥
none_fails l path p t g (Assign m) line legal chosen all order s fails = order
none_fails l path p t g (TankOrder a b z) line legal chosen all order s fails = tank_fails l path p t g a b z line legal chosen all s fails
none_fails l path p t g (HoistOrder a b z) line legal chosen all order s fails = hoist_fails l path p t g a b z legal chosen all s fails
none_fails l path p t g (Choose v) line legal chosen all order s fails = order

-- ---- a timetable that starts its moves by the ticks

start_shift : (l : LineData) (s : Timetable) (t : ℕ → ℤ) (c k : ℕ) → StartsBy l s t → IsMove l c k
    → ticks_of l s (move_number l c k) ≡ t (move_number l c k) +ℤ pos l.load
start_shift l s t c k by move = tick_is l s c k (omega (arith, move.1)) ∙ by c k move

-- the move of a moment
pub begin_move : (l : LineData) (d : ℕ → ℕ → ℕ) (v : VisitId) → IsLine l → IsVisit l v.carrier v.stage
    → IsMove l (begin_of l d v.carrier v.stage).carrier (begin_of l d v.carrier v.stage).step
begin_move l d v line visit =
    let c = v.carrier in
    let k = v.stage in
    let first : Moment = record { carrier = c; step = 0; fixed = neg_ℤ (pos l.load) } in
    let later : Moment = record { carrier = c; step = k - 1; fixed = pos (d c (k - 1)) -ℤ pos (stage l k).lower } in
    let P : Bool → Type 0 = λ b. IsMove l (cond b first later).carrier (cond b first later).step in
    ⊎_elim (λ e. subst P (sym (eq-eqb k 0 e)) (visit.0, omega (arith, line.limits.stages.0)))
    (λ ne. subst P (sym (ne_eqb k 0 ne)) (visit.0, omega (arith, visit.1, ne)))
    (cases_eq k 0)

pub end_move : (l : LineData) (d : ℕ → ℕ → ℕ) (v : VisitId) → IsLine l → IsVisit l v.carrier v.stage
    → IsMove l (end_of l d v.carrier v.stage).carrier (end_of l d v.carrier v.stage).step
end_move l d v line visit =
    let c = v.carrier in
    let k = v.stage in
    let last : Moment = record { carrier = c; step = last_step l; fixed = pos (d c (last_step l) + l.unload) } in
    let earlier : Moment = record { carrier = c; step = k; fixed = pos (stage l k).lift } in
    let P : Bool → Type 0 = λ b. IsMove l (cond b last earlier).carrier (cond b last earlier).step in
    ⊎_elim (λ e. subst P (sym (eq-eqb k (last_stage l) e)) (visit.0, omega (arith, line.limits.stages.0)))
    (λ ne. subst P (sym (ne_eqb k (last_stage l) ne)) (visit.0, omega (arith, visit.1, ne, line.limits.stages.0)))
    (cases_eq k (last_stage l))

moment_shift : (l : LineData) (s : Timetable) (t : ℕ → ℤ) (m : Moment) → StartsBy l s t → IsMove l m.carrier m.step
    → tick_of l (ticks_of l s) m ≡ tick_of l t m +ℤ pos l.load
moment_shift l s t m by move = there (ticks_of l s (node_of l m)) (t (node_of l m)) m.fixed l.load (start_shift l s t m.carrier m.step by move)
  where
    there : (a b f : ℤ) (n : ℕ) → a ≡ b +ℤ pos n → a +ℤ f ≡ (b +ℤ f) +ℤ pos n
    there a b f n e = omega (arith, ints, e)

-- a hold of a legal timetable is some ticks long
pub hold_long : (l : LineData) (s : Timetable) (v : VisitId) → IsLine l → IsLegal l s → IsVisit l v.carrier v.stage
    → begin_tick l s v <ℤ end_tick l s v
hold_long l s v line legal visit =
    let c = v.carrier in
    let k = v.stage in
    let t = ticks_of l s in
    let d = durations_of l s in
    let n = last_stage l in
    let two = line.limits.stages.0 in
    let first : Moment = record { carrier = c; step = 0; fixed = neg_ℤ (pos l.load) } in
    let later : Moment = record { carrier = c; step = k - 1; fixed = pos (d c (k - 1)) -ℤ pos (stage l k).lower } in
    let last : Moment = record { carrier = c; step = last_step l; fixed = pos (d c (last_step l) + l.unload) } in
    let earlier : Moment = record { carrier = c; step = k; fixed = pos (stage l k).lift } in
    let P : Bool → Bool → Type 0 = λ b e. tick_of l t (cond b first later) <ℤ tick_of l t (cond e last earlier) in
    ⊎_elim
    (λ zero_is.
    let not_last : k ≡ n → ⊥ = λ e. omega (arith, e, zero_is, two) in
    let same : t (move_number l c k) ≡ t (move_number l c 0) = ap (λ (j : ℕ). t (move_number l c j)) zero_is in
    let step : IsStep l k = omega (arith, zero_is, two) in
    subst (λ (b : Bool). P b (k == n)) (sym (eq-eqb k 0 zero_is))
    (subst (λ (e : Bool). P true e) (sym (ne_eqb k n not_last))
    (at_load (t (move_number l c 0)) (t (move_number l c k)) l.load (stage l k).lift same
    (line.times.lift k step).0)))
    (λ some.
    subst (λ (b : Bool). P b (k == n)) (sym (ne_eqb k 0 some))
    (⊎_elim
    (λ e.
    let lower = line.times.lower (k - 1) (omega (arith, e, two)) in
    let at : k - 1 + 1 ≡ k = omega (arith, some) in
    let low : 1 ≤ (stage l k).lower = subst (λ (j : ℕ). 1 ≤ (stage l j).lower) at lower.0 in
    let prior : k - 1 ≡ last_step l = omega (arith, e, two) in
    let same : t (move_number l c (k - 1)) ≡ t (move_number l c (last_step l)) = ap (λ (j : ℕ). t (move_number l c j)) prior in
    let lasts : d c (k - 1) ≡ d c (last_step l) = ap (λ (j : ℕ). d c j) prior in
    subst (λ (x : Bool). P false x) (sym (eq-eqb k n e))
    (at_unload (t (move_number l c (k - 1))) (t (move_number l c (last_step l))) (d c (k - 1)) (d c (last_step l)) (stage l k).lower l.unload same lasts low))
    (λ ne.
    let here : IsMove l c (k - 1 + 1) = (visit.0, omega (arith, visit.1, ne, some)) in
    let at : k - 1 + 1 ≡ k = omega (arith, some) in
    let Q : ℕ → Type 0 = λ j. s.start c (k - 1) + d c (k - 1) + (stage l j).min ≤ s.start c j in
    let least = subst Q at (legal.windows.least c (k - 1) here) in
    let step : IsStep l k = omega (arith, visit.1, ne) in
    subst (λ (x : Bool). P false x) (sym (ne_eqb k n ne))
    (inside (t (move_number l c (k - 1))) (t (move_number l c k)) (s.start c (k - 1)) (s.start c k) (d c (k - 1))
    (stage l k).lower (stage l k).lift (stage l k).min
    (tick_is l s c (k - 1) (omega (arith, visit.1, some, ne))) (tick_is l s c k (omega (arith, visit.1, ne))) (line.times.lift k step).0 least))
    (cases_eq k n)))
    (cases_eq k 0)
  where
    at_load : (a b : ℤ) (load lift : ℕ) → b ≡ a → 1 ≤ lift → (a +ℤ neg_ℤ (pos load)) <ℤ (b +ℤ pos lift)
    at_load a b load lift e some = omega (arith, ints, e, some)

    at_unload : (a b : ℤ) (d d' lower unload : ℕ) → a ≡ b → d ≡ d' → 1 ≤ lower
        → (a +ℤ (pos d -ℤ pos lower)) <ℤ (b +ℤ pos (d' + unload))
    at_unload a b d d' lower unload e f some = omega (arith, ints, e, f, some)

    inside : (a b : ℤ) (x y d lower lift least : ℕ) → a ≡ pos x → b ≡ pos y → 1 ≤ lift → x + d + least ≤ y
        → (a +ℤ (pos d -ℤ pos lower)) <ℤ (b +ℤ pos lift)
    inside a b x y d lower lift least e f some le = omega (arith, ints, e, f, some, le)

-- its orders are those of the other
visits_again : (l : LineData) (p s : Timetable) (t : ℕ → ℤ) (a b : VisitId) (q : ℤ) → IsLine l → IsLegal l s
    → SameMoves l p s → StartsBy l s t
    → UseOneTank l p a b → KeepsVisits l p t a b → q ≡ visit_order l p a b → IsVisitOrder l s a b q
visits_again l p s t a b q line legal same by pair k is =
    let d = durations_of l p in
    let n = p.period in
    let x : VisitId → ℤ = λ v. tick_of l t (end_of l d v.carrier v.stage) in
    let y : VisitId → ℤ = λ v. tick_of l t (begin_of l d v.carrier v.stage) in
    let ea : end_tick l s a ≡ x a +ℤ pos l.load =
    ap (λ (m : Moment). tick_of l (ticks_of l s) m) (end_is l p s a line same pair.first)
    ∙ moment_shift l s t (end_of l d a.carrier a.stage) by (end_move l d a line pair.first) in
    let eb : end_tick l s b ≡ x b +ℤ pos l.load =
    ap (λ (m : Moment). tick_of l (ticks_of l s) m) (end_is l p s b line same pair.second)
    ∙ moment_shift l s t (end_of l d b.carrier b.stage) by (end_move l d b line pair.second) in
    let ba : begin_tick l s a ≡ y a +ℤ pos l.load =
    ap (λ (m : Moment). tick_of l (ticks_of l s) m) (begin_is l p s a same pair.first)
    ∙ moment_shift l s t (begin_of l d a.carrier a.stage) by (begin_move l d a line pair.first) in
    let bb : begin_tick l s b ≡ y b +ℤ pos l.load =
    ap (λ (m : Moment). tick_of l (ticks_of l s) m) (begin_is l p s b same pair.second)
    ∙ moment_shift l s t (begin_of l d b.carrier b.stage) by (begin_move l d b line pair.second) in
    let o = visit_order l p a b in
    let long = hold_long l s a line legal pair.first in
    let long' = hold_long l s b line legal pair.second in
    let times : (z : ℤ) → z *ℤ pos s.period ≡ z *ℤ pos n = λ z. ap (λ (m : ℕ). z *ℤ pos m) same.period in
    let turns : q *ℤ pos n ≡ o *ℤ pos n = ap (λ (z : ℤ). z *ℤ pos n) is in
    record {
      holds = first (end_tick l s a) (begin_tick l s b) (x a) (y b) (q *ℤ pos s.period) (q *ℤ pos n) (o *ℤ pos n) l.load ea bb (times q) turns k.0;
      least = λ z le.
          by_lt_z z q
          (λ lt.
          let less : z ≤ℤ (o -ℤ pos 1) = omega (arith, ints, lt, is) in
          absurd
          (never (end_tick l s a) (begin_tick l s a) (end_tick l s b) (begin_tick l s b) (x b) (y a) (z *ℤ pos s.period)
          (z *ℤ pos n) ((o -ℤ pos 1) *ℤ pos n) l.load eb ba
          (times z) (times_mono z (o -ℤ pos 1) n less) le k.1 long long'))
          (λ ge. ge);
    }
  where
    first : (e b x y u u' o : ℤ) (w : ℕ) → e ≡ x +ℤ pos w → b ≡ y +ℤ pos w → u ≡ u' → u' ≡ o → x ≤ℤ (y +ℤ o)
        → e ≤ℤ (b +ℤ u)
    first e b x y u u' o w f g h i le = omega (arith, ints, f, g, h, i, le)

    never : (ea ba eb bb x y u u' o : ℤ) (w : ℕ) → eb ≡ x +ℤ pos w → ba ≡ y +ℤ pos w → u ≡ u' → u' ≤ℤ o
        → ea ≤ℤ (bb +ℤ u) → (x +ℤ o) ≤ℤ y → ba <ℤ ea → bb <ℤ eb → ⊥
    never ea ba eb bb x y u u' o w f g h i le le' lt lt' = omega (arith, ints, f, g, h, i, le, le', lt, lt')

pub own_tight : (l : LineData) (p : Timetable) (a b : MoveId) (span : Span) → IsLine l → IsLegal l p
    → Collide l p a b span → IsTight span
own_tight l p a b span line legal pair =
    let P : Option Span → Type 0 = λ o. IfSome o IsTight in
    subst P pair.clash
    (are_tight l (motion l p a.carrier a.step) (p.hoist a.carrier a.step) (motion l p b.carrier b.step) (p.hoist b.carrier b.step) line
    (is_motion l p a.carrier a.step line legal pair.first) (is_motion l p b.carrier b.step line legal pair.second)
    (legal.carried.hoist a.carrier a.step pair.first) (legal.carried.hoist b.carrier b.step pair.second))

moves_again : (l : LineData) (p s : Timetable) (t : ℕ → ℤ) (a b : MoveId) (span : Span) (q : ℤ) → IsLine l → IsLegal l p
    → SameMoves l p s → StartsBy l s t
    → Collide l p a b span → KeepsMoves l p t a b span → q ≡ move_order l p a b span → IsMoveOrder l s a b q
moves_again l p s t a b span q line legal same by pair k is =
    let n = p.period in
    let own : own_clash l s a b ≡ Some span = clash_same l p s a b same pair.first pair.second ∙ pair.clash in
    let sa = start_shift l s t a.carrier a.step by pair.first in
    let sb = start_shift l s t b.carrier b.step by pair.second in
    let o = move_order l p a b span in
    let tight = own_tight l p a b span line legal pair in
    let times : (z : ℤ) → z *ℤ pos s.period ≡ z *ℤ pos n = λ z. ap (λ (m : ℕ). z *ℤ pos m) same.period in
    let turns : q *ℤ pos n ≡ o *ℤ pos n = ap (λ (z : ℤ). z *ℤ pos n) is in
    let xa = ticks_of l s (move_number l a.carrier a.step) in
    let xb = ticks_of l s (move_number l b.carrier b.step) in
    let ya = t (move_number l a.carrier a.step) in
    let yb = t (move_number l b.carrier b.step) in
    record {
      holds = starts_at l s a b span q own (first xa xb ya yb span.after (q *ℤ pos s.period) (q *ℤ pos n) (o *ℤ pos n) l.load sa sb (times q) turns k.0);
      least = λ z le.
          by_lt_z z q
          (λ lt.
          let less : z ≤ℤ (o -ℤ pos 1) = omega (arith, ints, lt, is) in
          absurd
          (never xa xb ya yb span.after span.before (z *ℤ pos s.period) (z *ℤ pos n) ((o -ℤ pos 1) *ℤ pos n) l.load sa sb (times z)
          (times_mono z (o -ℤ pos 1) n less) (starts_from l s a b span z own le) k.1 tight.holds))
          (λ ge. ge);
    }
  where
    first : (a b x y w u u' o : ℤ) (n : ℕ) → a ≡ x +ℤ pos n → b ≡ y +ℤ pos n → u ≡ u' → u' ≡ o → w ≤ℤ ((y +ℤ o) -ℤ x)
        → w ≤ℤ ((b +ℤ u) -ℤ a)
    first a b x y w u u' o n f g h i le = omega (arith, ints, f, g, h, i, le)

    never : (a b x y w w' u u' o : ℤ) (n : ℕ) → a ≡ x +ℤ pos n → b ≡ y +ℤ pos n → u ≡ u' → u' ≤ℤ o
        → w ≤ℤ ((b +ℤ u) -ℤ a) → w' ≤ℤ neg_ℤ ((y +ℤ o) -ℤ x)
        → pos 2 ≤ℤ (w +ℤ w') → ⊥
    never a b x y w w' u u' o n f g h i le le' tight = omega (arith, ints, f, g, h, i, le, le', tight)

-- ---- its windows

windows_least : (l : LineData) (path : List Decision) (p s : Timetable) (t : ℕ → ℤ) (g c k : ℕ) → IsLine l
    → IsChosen l p path → SameMoves l p s → StartsBy l s t
    → All (Keeps t g) (margin_arcs l p path) → IsMove l c (k + 1)
    → s.start c k + durations_of l s c k + ((stage l (k + 1)).min + g) ≤ s.start c (k + 1)
windows_least l path p s t g c k line chosen same by all move =
    let before : IsMove l c k = (move.0, omega (arith, move.1)) in
    let kept = shared_kept l path p t g (Min c (k + 1)) line chosen all (move.0, omega arith, omega (arith, move.1)) in
    let at : k + 1 - 1 ≡ k = omega arith in
    let node : t (move_number l c (k + 1 - 1)) ≡ t (move_number l c k) = ap (λ (j : ℕ). t (move_number l c j)) at in
    let lasts : low l path c (k + 1 - 1) ≡ durations_of l s c k =
    ap (λ (j : ℕ). low l path c j) at ∙ low_own l path p c k chosen before ∙ sym (lasts_same l p s c k same before) in
    there (t (move_number l c (k + 1 - 1))) (t (move_number l c k)) (t (move_number l c (k + 1))) (s.start c k) (s.start c (k + 1)) (low l path c (k + 1 - 1))
    (durations_of l s c k) (stage l (k + 1)).min g l.load (pos 0 *ℤ pos p.period) (pos 1 *ℤ pos g) node (by c k before) (by c (k + 1) move) lasts
    (omega (arith, ints)) (omega (arith, ints)) kept
  where
    there : (t0 t t' : ℤ) (a b d d' m g load : ℕ) (none share : ℤ) → t0 ≡ t → pos a ≡ t +ℤ pos load
        → pos b ≡ t' +ℤ pos load → d ≡ d' → none ≡ pos 0 → share ≡ pos g
        → (t0 +ℤ ((pos (d + m) +ℤ none) +ℤ share)) ≤ℤ t' → a + d' + (m + g) ≤ b
    there t0 t t' a b d d' m g load none share e0 e f h n s le = omega (arith, ints, e0, e, f, h, n, s, le)

under_max : (o : Option ℕ) (P : ℕ → Type 0) → (IsSome o → P (unwrap_or o 0)) → IfSome o P
under_max None P h = tt
under_max (Some m) P h = h refl

windows_greatest : (l : LineData) (path : List Decision) (p s : Timetable) (t : ℕ → ℤ) (g c k : ℕ) → IsLine l
    → IsChosen l p path → SameMoves l p s → StartsBy l s t
    → All (Keeps t g) (margin_arcs l p path) → IsMove l c (k + 1)
    → IfSome (stage l (k + 1)).max (λ m. s.start c (k + 1) + g ≤ s.start c k + durations_of l s c k + m)
windows_greatest l path p s t g c k line chosen same by all move =
    let before : IsMove l c k = (move.0, omega (arith, move.1)) in
    let at : k + 1 - 1 ≡ k = omega arith in
    let node : t (move_number l c (k + 1 - 1)) ≡ t (move_number l c k) = ap (λ (j : ℕ). t (move_number l c j)) at in
    let lasts : high l path c (k + 1 - 1) ≡ durations_of l s c k =
    ap (λ (j : ℕ). high l path c j) at ∙ high_own l path p c k chosen before ∙ sym (lasts_same l p s c k same before) in
    under_max (stage l (k + 1)).max (λ m. s.start c (k + 1) + g ≤ s.start c k + durations_of l s c k + m)
    (λ some.
    there (t (move_number l c (k + 1 - 1))) (t (move_number l c k)) (t (move_number l c (k + 1))) (s.start c k) (s.start c (k + 1)) (high l path c (k + 1 - 1))
    (durations_of l s c k) (unwrap_or (stage l (k + 1)).max 0) g l.load (pos 0 *ℤ pos p.period) (pos 1 *ℤ pos g) node (by c k before) (by c (k + 1) move) lasts
    (omega (arith, ints)) (omega (arith, ints))
    (shared_kept l path p t g (Max c (k + 1)) line chosen all (move.0, omega arith, omega (arith, move.1), some)))
  where
    there : (t0 t t' : ℤ) (a b d d' m g load : ℕ) (none share : ℤ) → t0 ≡ t → pos a ≡ t +ℤ pos load
        → pos b ≡ t' +ℤ pos load → d ≡ d' → none ≡ pos 0 → share ≡ pos g
        → (t' +ℤ ((neg_ℤ (pos (d + m)) +ℤ none) +ℤ share)) ≤ℤ t0 → b + g ≤ a + d' + m
    there t0 t t' a b d d' m g load none share e0 e f h n s le = omega (arith, ints, e0, e, f, h, n, s, le)

-- ---- all

pub is_sibling : (l : LineData) (path : List Decision) (p s : Timetable) (t : ℕ → ℤ) (g : ℕ) → IsLine l → IsLegal l p
    → IsLegal l s → IsChosen l p path
    → SameMoves l p s → StartsBy l s t → All (Keeps t g) (margin_arcs l p path) → IsSibling l p s
is_sibling l path p s t g line legal legal' chosen same by all = record {
  legal = legal';
  period = same.period;
  hoists = same.hoists;
  tanks = same.tanks;
  visits = λ a b q pair order.
      visits_again l p s t a b q line legal' same by pair (orders_visits l path p t g all a b pair)
      (one_least (BeginsAfter l p a b) q (visit_order l p a b) order (visit_order_is l p a b legal.period));
  moves = λ a b q pair order.
      let c = some_is (own_clash l p a b) pair.clash in
      let both : Collide l p a b c.0 = record { first = pair.first; second = pair.second; before = pair.before; clash = c.1 } in
      moves_again l p s t a b c.0 q line legal same by both (orders_moves l path p t g all a b c.0 both)
      (one_least (StartsAfter l p a b) q (move_order l p a b c.0) order (move_order_is l p a b c.0 legal.period c.1));
}

pub has_margin : (l : LineData) (path : List Decision) (p s : Timetable) (t : ℕ → ℤ) (g : ℕ) → IsLine l
    → IsChosen l p path → SameMoves l p s → StartsBy l s t
    → All (Keeps t g) (margin_arcs l p path) → HasMargin l s g
has_margin l path p s t g line chosen same by all = record {
  least = λ c k move. windows_least l path p s t g c k line chosen same by all move;
  greatest = λ c k move. windows_greatest l path p s t g c k line chosen same by all move;
}
