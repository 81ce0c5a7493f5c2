-- Every question that is asked is in a list that is as long as the line's depth.
use Rattle.std.proofs.Common.{⊎_elim, inl, inr, ◌≡◌, ℕ, suc, ◌+◌, ◌*◌, ◌%◌, ◌<◌, ◌≤◌, List, [], ◌∷◌, ◌++◌, length, map, Bool, true, refl, sym, ◌∙◌, ap, subst, arith, ℤ, pos, Some, None, eq-eqb, ◌==◌, nat_le}
use Rattle.std.specs.Prelude.{Option, filter, flat_map, count_by, IsSome, IsSomeAnd, ◌-ℤ◌, ◌+ℤ◌, ◌<ℤ◌, neg_ℤ, unsigned_abs}
use Rattle.std.specs.List.{list_any}
use Rattle.std.proofs.lemmas.Bool.{le-leb}
use Rattle.std.proofs.lemmas.Int.{ints}
use Rattle.std.proofs.lemmas.List.{length-append, length-map}
use Rattle.std.proofs.lemmas.List.Sums.{length-filter}
use Rattle.std.proofs.lemmas.Nat.{mul-le, div-mul-add, mod-mul-add}
use Rattle.hoist_base.specs.LineData.{LineData, stage, last_stage, move_number, move_count, move_at, visit_number, visit_count, visit_at, IsMove, IsVisit}
use Rattle.hoist_base.specs.Valid.{IsLine}
use Rattle.hoist_base.specs.declared.ids.MoveId.{MoveId}
use Rattle.hoist_base.specs.declared.ids.VisitId.{VisitId}
use Rattle.hoist_base.specs.declared.stage.Stage.{Stage}
use Rattle.hoist_base.proofs.NumberLemmas.{move_below, move_named, visit_below, visit_named}
use Rattle.line_model.specs.declared.motion.Motion.{Motion}
use Rattle.line_model.specs.Motion.{motion_between}
use Rattle.collision_pairs.specs.declared.span.Span.{Span}
use Rattle.choice_tree.specs.declared.question.Question.{Question}
use Rattle.choice_tree.specs.declared.question.Question.TheVariants.{Assign, TankOrder, HoistOrder, Choose}
use Rattle.choice_tree.specs.declared.question.Decision.{Decision}
use Rattle.choice_tree.specs.Nodes.{numbers_from}
use Rattle.choice_tree.proofs.NodeLemmas.{length-numbers_from}
use Rattle.path_constraints.specs.Tanks.{motion_below}
use Rattle.path_constraints.specs.declared.rides.Ride.{Ride}
use Rattle.path_constraints.specs.Hoists.{assigned_of, hoist_by, hoists_by, hoists_reaching, hoists_below, ride_below, clash_between, clash_below}
use Rattle.path_constraints.specs.Questions.{IsBefore, FitsPath, ShareTank, MayClash, offset_of}
use Rattle.path_constraints.specs.Ticks.{tick_at}
use Rattle.path_constraints.proofs.NameLemmas.{In, in_left, in_right, in_map, in_flat_map, in_filter, in_numbers, in_contains}
use Rattle.path_constraints.proofs.Settled.{settled_motion, settled_ride, settled_clash}
use Rattle.path_constraints.proofs.SpreadLemmas.{keeps_all}
use Rattle.node_expand.proofs.SettledLemmas.{some_one, some_children, tank_serves}
use Rattle.enough_budget.specs.Depth.{pairs, has_choice, has_hoists, motions_of, share, shares, rides_of, sizes_of, clash_sizes, greatest_size, greatest_shift, depth}
use Rattle.enough_budget.specs.Asked.{IsAskedBelow, IsAskedPath}
use Rattle.enough_budget.proofs.AgainLemmas.{asked_fits}
use Rattle.enough_budget.proofs.ListLemmas.{any_in, in_got, rows_length, in_greatest}
use Rattle.enough_budget.proofs.NearLemmas.{one_tank, some_period}
use Rattle.enough_budget.proofs.ShiftLemmas.{tank_shift, hoist_shift}

-- ---- the list

-- all numbers of at most this size
abbrev shifts : ℕ → List ℤ
shifts most = map (λ n. pos n -ℤ pos most) (numbers_from 0 (2 * most + 1))

abbrev choices : LineData → List Question
choices l = map (λ i. Choose (visit_at l i)) (filter (has_choice l) (numbers_from 0 (visit_count l)))

abbrev assigns : LineData → List Question
assigns l = map (λ i. Assign (move_at l i)) (filter (has_hoists l) (numbers_from 0 (move_count l)))

abbrev tank_row : LineData → ℕ × ℕ → List Question
tank_row l p = map (λ q. TankOrder (visit_at l p.0) (visit_at l p.1) q) (shifts (greatest_shift l))

abbrev hoist_row : LineData → ℕ × ℕ → List Question
hoist_row l p = map (λ q. HoistOrder (move_at l p.0) (move_at l p.1) q) (shifts (greatest_shift l))

abbrev tank_orders : LineData → List Question
tank_orders l = flat_map (tank_row l) (filter (shares l) (pairs (visit_count l)))

abbrev hoist_orders : LineData → List Question
hoist_orders l = flat_map (hoist_row l) (pairs (move_count l))

abbrev pub all_questions : LineData → List Question
all_questions l = choices l ++ (assigns l ++ (tank_orders l ++ hoist_orders l))

-- ---- its length

shifts_length : (most : ℕ) → length (shifts most) ≡ 2 * most + 1
shifts_length most =
    length-map (numbers_from 0 (2 * most + 1)) (λ n. pos n -ℤ pos most) ∙ length-numbers_from 0 (2 * most + 1)

pub questions_length : (l : LineData) → length (all_questions l) ≡ depth l
questions_length l =
    let n = 2 * greatest_shift l + 1 in
    let choose = length-map (filter (has_choice l) (numbers_from 0 (visit_count l))) (λ i. Choose (visit_at l i)) in
    let assign = length-map (filter (has_hoists l) (numbers_from 0 (move_count l))) (λ i. Assign (move_at l i)) in
    let tanks : length (tank_orders l) ≡ count_by (shares l) (pairs (visit_count l)) * n =
    rows_length (tank_row l) n (filter (shares l) (pairs (visit_count l)))
    (λ p. length-map (shifts (greatest_shift l)) (λ q. TankOrder (visit_at l p.0) (visit_at l p.1) q) ∙ shifts_length (greatest_shift l))
    ∙ ap (λ (m : ℕ). m * n) (length-filter (shares l) (pairs (visit_count l))) in
    let hoists : length (hoist_orders l) ≡ length (pairs (move_count l)) * n =
    rows_length (hoist_row l) n (pairs (move_count l))
    (λ p. length-map (shifts (greatest_shift l)) (λ q. HoistOrder (move_at l p.0) (move_at l p.1) q) ∙ shifts_length (greatest_shift l)) in
    omega (
      arith,
      length-append (choices l) (assigns l ++ (tank_orders l ++ hoist_orders l)),
      length-append (assigns l) (tank_orders l ++ hoist_orders l),
      length-append (tank_orders l) (hoist_orders l),
      choose,
      assign,
      tanks,
      hoists,
      length-filter (has_choice l) (numbers_from 0 (visit_count l)),
      length-filter (has_hoists l) (numbers_from 0 (move_count l)),
    )

-- ---- numbers and pairs

in_shifts : (most : ℕ) (q : ℤ) → unsigned_abs q ≤ most → In (shifts most) q
in_shifts most q small =
    let n = unsigned_abs (q +ℤ pos most) in
    let e : pos n -ℤ pos most ≡ q = omega (arith, ints, small) in
    let P : ℤ → Type 0 = λ z. In (shifts most) z in
    subst P e
    (in_map (λ m. pos m -ℤ pos most) (numbers_from 0 (2 * most + 1)) n (in_numbers 0 (2 * most + 1) n (omega arith) (omega (arith, ints, small))))

in_pairs : (count i j : ℕ) → i < j → j < count → In (pairs count) (i, j)
in_pairs count i j lt lt' =
    let row : ℕ → List (ℕ × ℕ) = λ k. map (λ h. (h, k)) (numbers_from 0 k) in
    in_flat_map row (numbers_from 0 count) j (i, j) (in_numbers 0 count j (omega arith) (omega (arith, lt')))
    (in_map (λ h. (h, j)) (numbers_from 0 j) i (in_numbers 0 j i (omega arith) (omega (arith, lt))))

numbers_rise : (c k c' k' m : ℕ) → k < m → IsBefore c k c' k' → c * m + k < c' * m + k'
numbers_rise c k c' k' m small before =
    ⊎_elim (λ lt. omega (arith, small, mul-le (suc c) m c' m lt (omega arith)))
    (λ same. omega (arith, same.1, ap (λ (x : ℕ). x * m) same.0)) before

-- ---- choices of tanks

choose_listed : (l : LineData) (v : VisitId) → IsVisit l v.carrier v.stage → 2 ≤ length (stage l v.stage).tanks
    → In (choices l) (Choose v)
choose_listed l v visit several =
    let i = visit_number l v.carrier v.stage in
    let is = visit_named l v visit in
    let yes : has_choice l i ≡ true =
    ap (λ (w : VisitId). nat_le 2 (length (stage l w.stage).tanks)) is ∙ le-leb 2 (length (stage l v.stage).tanks) several in
    let there = in_numbers 0 (visit_count l) i (omega arith) (omega (arith, visit_below l v.carrier v.stage visit)) in
    let P : VisitId → Type 0 = λ w. In (choices l) (Choose w) in
    subst P is
    (in_map (λ j. Choose (visit_at l j)) (filter (has_choice l) (numbers_from 0 (visit_count l))) i
    (in_filter (has_choice l) (numbers_from 0 (visit_count l)) i there yes))

-- ---- hoists of moves

-- a motion that a path settles is one of its step's
motion_listed : (l : LineData) (path : List Decision) (c k : ℕ) (m : Motion) → FitsPath l path
    → motion_below l path c k ≡ Some m → In (motions_of l k) m
motion_listed l path c k m fits e =
    let r = settled_motion l path c k m e in
    let from = in_contains (stage l k).tanks r.from (tank_serves l path c k r.from fits r.first) in
    let to = in_contains (stage l (k + 1)).tanks r.to (tank_serves l path c (k + 1) r.to fits r.second) in
    let row : ℕ → List Motion = λ i. map (λ j. motion_between l k i j) (stage l (k + 1)).tanks in
    let P : Motion → Type 0 = λ x. In (motions_of l k) x in
    subst P (sym r.is)
    (in_flat_map row (stage l k).tanks r.from (motion_between l k r.from r.to) from
    (in_map (λ j. motion_between l k r.from j) (stage l (k + 1)).tanks r.to to))

assign_listed : (l : LineData) (path : List Decision) (m : MoveId) → FitsPath l path → IsMove l m.carrier m.step
    → IsSome (motion_below l path m.carrier m.step)
    → 2 ≤ length (hoists_below l path m.carrier m.step) → In (assigns l) (Assign m)
assign_listed l path m fits move motion several =
    let i = move_number l m.carrier m.step in
    let is = move_named l m move in
    let found = some_one (motion_below l path m.carrier m.step) motion in
    let test : Motion → Bool = λ x. nat_le 2 (length (hoists_reaching l x)) in
    let list : hoists_below l path m.carrier m.step ≡ hoists_reaching l found.0 = ap (λ (o : Option Motion). hoists_by l o) found.1 in
    let many : test found.0 ≡ true =
    le-leb 2 (length (hoists_reaching l found.0)) (omega (arith, several, ap (λ (hs : List ℕ). length hs) list)) in
    let any : list_any test (motions_of l m.step) ≡ true =
    any_in test (motions_of l m.step) found.0 (motion_listed l path m.carrier m.step found.0 fits found.1) many in
    let yes : has_hoists l i ≡ true = ap (λ (x : MoveId). list_any test (motions_of l x.step)) is ∙ any in
    let there = in_numbers 0 (move_count l) i (omega arith) (omega (arith, move_below l m.carrier m.step move)) in
    let P : MoveId → Type 0 = λ x. In (assigns l) (Assign x) in
    subst P is
    (in_map (λ j. Assign (move_at l j)) (filter (has_hoists l) (numbers_from 0 (move_count l))) i
    (in_filter (has_hoists l) (numbers_from 0 (move_count l)) i there yes))

-- ---- orders of visits

share_yes : (s t : Stage) (i : ℕ) → In s.tanks i → In t.tanks i → share s t ≡ true
share_yes s t i here there =
    any_in (λ x. list_any (λ y. x == y) t.tanks) s.tanks i here (any_in (λ y. i == y) t.tanks i there (eq-eqb i i refl))

tanks_listed : (l : LineData) (path : List Decision) (a b : VisitId) (q : ℤ) → FitsPath l path → ShareTank l path a b
    → unsigned_abs q ≤ greatest_shift l
    → In (tank_orders l) (TankOrder a b q)
tanks_listed l path a b q fits stands small =
    let i = visit_number l a.carrier a.stage in
    let j = visit_number l b.carrier b.stage in
    let is_a = visit_named l a stands.first in
    let is_b = visit_named l b stands.second in
    let in_a = in_contains (stage l a.stage).tanks stands.tank (tank_serves l path a.carrier a.stage stands.tank fits stands.first_tank) in
    let in_b = in_contains (stage l b.stage).tanks stands.tank (tank_serves l path b.carrier b.stage stands.tank fits stands.second_tank) in
    let yes : shares l (i, j) ≡ true =
    ap (λ (v : VisitId). share (stage l v.stage) (stage l (visit_at l j).stage)) is_a
    ∙ ap (λ (v : VisitId). share (stage l a.stage) (stage l v.stage)) is_b
    ∙ share_yes (stage l a.stage) (stage l b.stage) stands.tank in_a in_b in
    let there =
    in_pairs (visit_count l) i j (numbers_rise a.carrier a.stage b.carrier b.stage (length l.stages) stands.first.1 stands.before)
    (visit_below l b.carrier b.stage stands.second) in
    let here : In (tank_orders l) (TankOrder (visit_at l i) (visit_at l j) q) =
    in_flat_map (tank_row l) (filter (shares l) (pairs (visit_count l))) (i, j) (TankOrder (visit_at l i) (visit_at l j) q)
    (in_filter (shares l) (pairs (visit_count l)) (i, j) there yes)
    (in_map (λ z. TankOrder (visit_at l i) (visit_at l j) z) (shifts (greatest_shift l)) q (in_shifts (greatest_shift l) q small)) in
    let P : VisitId → Type 0 = λ v. In (tank_orders l) (TankOrder v (visit_at l j) q) in
    let Q : VisitId → Type 0 = λ v. In (tank_orders l) (TankOrder a v q) in
    subst Q is_b (subst P is_a here)

-- ---- orders of moves

hoist_there : (hs : List ℕ) (o : Option ℕ) (h : ℕ) → hoist_by hs o ≡ Some h → In hs h
hoist_there [] o h e = cc
hoist_there (x ∷ []) o h e = let same : x ≡ h = cc in inl same
hoist_there (x ∷ y ∷ ys) None h e = cc
hoist_there (x ∷ y ∷ ys) (Some n) h e = in_got (x ∷ y ∷ ys) n h e

-- a ride that a path settles is one of its step's
ride_listed : (l : LineData) (path : List Decision) (c k : ℕ) (r : Ride) → FitsPath l path
    → ride_below l path c k ≡ Some r → In (rides_of l k) r
ride_listed l path c k r fits e =
    let s = settled_ride l path c k r e in
    let row : Motion → List Ride = λ m. map (λ h. record { motion = m; hoist = h }) (hoists_reaching l m) in
    in_flat_map row (motions_of l k) r.motion r (motion_listed l path c k r.motion fits s.motion)
    (in_map (λ h. record { motion = r.motion; hoist = h }) (hoists_reaching l r.motion) r.hoist
    (hoist_there (hoists_reaching l r.motion) (assigned_of path c k) r.hoist s.hoist))

-- the sizes of a clash below a path are no greater than the greatest
size_listed : (l : LineData) (path : List Decision) (a b : MoveId) (span : Span) (n : ℕ) → FitsPath l path
    → MayClash l path a b
    → clash_below l path a b ≡ Some span → In (sizes_of (Some span)) n → n ≤ greatest_size l
size_listed l path a b span n fits stands e size =
    let i = move_number l a.carrier a.step in
    let j = move_number l b.carrier b.step in
    let is_a = move_named l a stands.first in
    let is_b = move_named l b stands.second in
    let s = settled_clash l path a b span e in
    let S : Option Span → Type 0 = λ o. In (sizes_of o) n in
    let row : Ride → List ℕ = λ y. sizes_of (clash_between l s.first y) in
    let rows : Ride → List ℕ = λ x. flat_map (λ y. sizes_of (clash_between l x y)) (rides_of l b.step) in
    let second = in_flat_map row (rides_of l b.step) s.second n (ride_listed l path b.carrier b.step s.second fits s.is_second) (subst S (sym s.clash) size) in
    let both : In (clash_sizes l a.step b.step) n =
    in_flat_map rows (rides_of l a.step) s.first n (ride_listed l path a.carrier a.step s.first fits s.is_first) second in
    let P : MoveId → Type 0 = λ x. In (clash_sizes l x.step b.step) n in
    let Q : MoveId → Type 0 = λ x. In (clash_sizes l (move_at l i).step x.step) n in
    let here : In (clash_sizes l (move_at l i).step (move_at l j).step) n = subst Q (sym is_b) (subst P (sym is_a) both) in
    let pair : ℕ × ℕ → List ℕ = λ p. clash_sizes l (move_at l p.0).step (move_at l p.1).step in
    let there =
    in_pairs (move_count l) i j (numbers_rise a.carrier a.step b.carrier b.step (last_stage l) (omega (arith, stands.first.1)) stands.before)
    (move_below l b.carrier b.step stands.second) in
    in_greatest (flat_map pair (pairs (move_count l))) n (in_flat_map pair (pairs (move_count l)) (i, j) n there here)

hoists_listed : (l : LineData) (path : List Decision) (a b : MoveId) (q : ℤ) → MayClash l path a b
    → unsigned_abs q ≤ greatest_shift l
    → In (hoist_orders l) (HoistOrder a b q)
hoists_listed l path a b q stands small =
    let i = move_number l a.carrier a.step in
    let j = move_number l b.carrier b.step in
    let is_a = move_named l a stands.first in
    let is_b = move_named l b stands.second in
    let there =
    in_pairs (move_count l) i j (numbers_rise a.carrier a.step b.carrier b.step (last_stage l) (omega (arith, stands.first.1)) stands.before)
    (move_below l b.carrier b.step stands.second) in
    let here : In (hoist_orders l) (HoistOrder (move_at l i) (move_at l j) q) =
    in_flat_map (hoist_row l) (pairs (move_count l)) (i, j) (HoistOrder (move_at l i) (move_at l j) q) there
    (in_map (λ z. HoistOrder (move_at l i) (move_at l j) z) (shifts (greatest_shift l)) q (in_shifts (greatest_shift l) q small)) in
    let P : MoveId → Type 0 = λ m. In (hoist_orders l) (HoistOrder m (move_at l j) q) in
    let Q : MoveId → Type 0 = λ m. In (hoist_orders l) (HoistOrder a m q) in
    subst Q is_b (subst P is_a here)

-- a clash that the ticks leave open, with its span
open_span : (o : Option Span) (P : Span → Type 0) → IsSomeAnd o P → (span : Span) × (o ≡ Some span) × P span
open_span None P h = absurd h
open_span (Some span) P h = (span, refl, h)

-- ---- all questions

pub listed : (l : LineData) (path : List Decision) (question : Question) → IsLine l → IsAskedPath l path
    → IsAskedBelow l path question
    → In (all_questions l) question
listed l path (Choose v) line h asked =
    in_left (choices l) (assigns l ++ (tank_orders l ++ hoist_orders l)) (Choose v)
    (choose_listed l v asked.first.0.stands.visit asked.first.0.stands.several)
listed l path (Assign m) line h asked =
    let stands = asked.first.0.stands in
    in_right (choices l) (assigns l ++ (tank_orders l ++ hoist_orders l)) (Assign m)
    (in_left (assigns l) (tank_orders l ++ hoist_orders l) (Assign m)
    (assign_listed l path m (asked_fits l path h) stands.move stands.motion (some_children l path (Assign m) line asked.free asked.first.0).0))
listed l path (TankOrder a b q) line h asked =
    let s = tick_at asked.ticks in
    let stands = asked.first.0.stands in
    let tanks = one_tank l path s asked.period (TankOrder a b q) line asked.first (omega arith) in
    let keeps = keeps_all l path s asked.period line asked.solution.solves in
    let few = tank_shift l path s asked.period a b q line tanks keeps stands.first stands.second asked.first.1 in
    in_right (choices l) (assigns l ++ (tank_orders l ++ hoist_orders l)) (TankOrder a b q)
    (in_right (assigns l) (tank_orders l ++ hoist_orders l) (TankOrder a b q)
    (in_left (tank_orders l) (hoist_orders l) (TankOrder a b q) (tanks_listed l path a b q (asked_fits l path h) stands (omega (arith, few)))))
listed l path (HoistOrder a b q) line h asked =
    let s = tick_at asked.ticks in
    let stands = asked.first.0.stands in
    let fits = asked_fits l path h in
    let tanks = one_tank l path s asked.period (HoistOrder a b q) line asked.first (omega arith) in
    let keeps = keeps_all l path s asked.period line asked.solution.solves in
    let Between : Span → Type 0 =
    λ span. (neg_ℤ span.before <ℤ offset_of l s asked.period a b q) × (offset_of l s asked.period a b q <ℤ span.after) in
    let (span, is, between) = open_span (clash_below l path a b) Between asked.first.1 in
    let after = size_listed l path a b span (unsigned_abs span.after) fits stands is (inl refl) in
    let before = size_listed l path a b span (unsigned_abs span.before) fits stands is (inr (inl refl)) in
    let some = some_period l path s asked.period a.carrier a.step line tanks keeps stands.first in
    let few =
    hoist_shift l path s asked.period a b q span (greatest_size l) line tanks keeps some stands.first stands.second after before between.0 between.1 in
    in_right (choices l) (assigns l ++ (tank_orders l ++ hoist_orders l)) (HoistOrder a b q)
    (in_right (assigns l) (tank_orders l ++ hoist_orders l) (HoistOrder a b q)
    (in_right (tank_orders l) (hoist_orders l) (HoistOrder a b q) (hoists_listed l path a b q stands few)))
