-- What one decision more changes in the constraints of a path.
use Rattle.std.proofs.Common.{⊎_elim, inl, inr, ◌⊎◌, ◌≡◌, ℕ, zero, suc, ◌+◌, ◌-◌, ◌<◌, ◌≤◌, List, [], ◌∷◌, ◌++◌, length, get_or, take, map, Bool, true, false, cond, ◌&&◌, refl, sym, ◌∙◌, ap, subst, arith, Some, None, append_assoc, pos, ℤ, ◌==◌}
use Rattle.std.specs.Prelude.{Option, flat_map, IsSome, ◌-ℤ◌, neg_ℤ, negsuc, unwrap_or}
use Rattle.std.specs.Option.{option_or}
use Rattle.std.proofs.lemmas.Bool.{cases_eq, cases_lt, ne_eqb}
use Rattle.std.proofs.lemmas.List.{take_more, length-map, length-take, get_or-take, take-take, append-nil, get_or-map, ext_get_or, map-append}
use Rattle.hoist_base.specs.LineData.{LineData, stage, last_stage, last_step, move_number}
use Rattle.hoist_base.specs.declared.ids.MoveId.{MoveId}
use Rattle.hoist_base.specs.declared.ids.VisitId.{VisitId}
use Rattle.line_model.specs.declared.motion.Motion.{Motion}
use Rattle.line_model.specs.Motion.{motion_between, duration}
use Rattle.longest_path.specs.declared.systems.Arc.{Arc}
use Rattle.longest_path.specs.System.{SystemData}
use Rattle.collision_pairs.specs.declared.span.Span.{Span}
use Rattle.choice_tree.specs.declared.question.Question.{Question}
use Rattle.choice_tree.specs.declared.question.Question.TheVariants.{Assign, TankOrder, HoistOrder, Choose}
use Rattle.choice_tree.specs.declared.question.Decision.{Decision}
use Rattle.choice_tree.specs.declared.constraint.Constraint.{Constraint}
use Rattle.choice_tree.specs.declared.constraint.Constraint.TheVariants.{Min, Max, Entry, Visit, Repeat, Decided}
use Rattle.path_constraints.specs.Tanks.{no_decision, decision_at, choice_by, choice_of, tanks_by, tanks_below, motions_below, tank_below, low, least_of, greatest_of, there_and_back}
use Rattle.path_constraints.specs.Hoists.{clash_below}
use Rattle.path_constraints.specs.Holds.{Moment, begin_of, end_of}
use Rattle.path_constraints.specs.Questions.{HasBegin, Stands, FitsPath}
use Rattle.path_constraints.specs.Constraints.{moment_arc, span_arc, decided_arc, IsOrder, IsConstraint, arc_of, arcs_of, undecided_list, decided_by, decided_list, constraint_list}
use Rattle.path_constraints.specs.Places.{IsUndecided, IsOfMove, IsOfVisit, Rewrites, place}
use Rattle.path_constraints.proofs.Choices.{choice-append}
use Rattle.path_constraints.proofs.Settled.{fits-take, tank_stays, low_is, clash_stays}
use Rattle.path_constraints.proofs.NameLemmas.{In, in_at, from_decided, from_undecided}
use Rattle.path_constraints.proofs.PlaceLemmas.{place_at, length_undecided, placed}

-- ---- constraints that stand on every path

pub motions_same : (l : LineData) (p p' : List Decision) (c k : ℕ) → choice_of p c k ≡ choice_of p' c k
    → choice_of p c (k + 1) ≡ choice_of p' c (k + 1)
    → motions_below l p c k ≡ motions_below l p' c k
motions_same l p p' c k e e' =
    ap (λ (o : Option ℕ). flat_map (λ i. map (λ j. motion_between l k i j) (tanks_below l p c (k + 1))) (tanks_by (stage l k).tanks o)) e
    ∙ ap (λ (o : Option ℕ). flat_map (λ i. map (λ j. motion_between l k i j) (tanks_by (stage l (k + 1)).tanks o)) (tanks_below l p' c k)) e'

-- its moves have the same motions below both paths
abbrev pub SameMoves : LineData → List Decision → List Decision → Constraint → Type 0
SameMoves l p p' t = (c k : ℕ) → IsOfMove c k t → motions_below l p c k ≡ motions_below l p' c k

abbrev arc_by : ℕ → ℕ → ℤ → ℤ → Arc
arc_by from to w q = record { from = from; to = to; w = w; q = q }

pub arc_same : (l : LineData) (p p' : List Decision) (t : Constraint) → IsUndecided t → IsConstraint l p t
    → SameMoves l p p' t → arc_of l p t ≡ arc_of l p' t
arc_same l p p' (Min c k) u h same =
    let e = same c (k - 1) (refl, omega (arith, h.1)) in
    ap (λ (ms : List Motion). arc_by (move_number l c (k - 1)) (move_number l c k) (pos (least_of (map duration ms) + (stage l k).min)) (pos 0)) e
arc_same l p p' (Max c k) u h same =
    let e = same c (k - 1) (refl, omega (arith, h.1)) in
    ap (λ (ms : List Motion). arc_by (move_number l c k) (move_number l c (k - 1)) (neg_ℤ (pos (greatest_of (map duration ms) + unwrap_or (stage l k).max 0)))
    (pos 0)) e
arc_same l p p' (Entry c) u h same = refl
arc_same l p p' (Visit c k) u h same =
    let e = same c (k - 1) (refl, omega (arith, h.1)) in
    let n = move_number l c (last_step l) in
    ap (λ (ms : List Motion). cond (k == last_stage l) (arc_by n n (pos ((stage l k).lower + l.unload)) (negsuc 0))
    (arc_by (move_number l c k) (move_number l c (k - 1)) (pos ((stage l k).lift + (stage l k).lower) -ℤ pos (greatest_of (map duration ms))) (negsuc 0))) e
arc_same l p p' (Repeat c k) u h same =
    let e = same c k (refl, refl) in
    ap (λ (ms : List Motion). arc_by (move_number l c k) (move_number l c k) (pos (least_of (map there_and_back ms))) (negsuc 0)) e
arc_same l p p' (Decided i) u h same = absurd u

pub not_decided : (l : LineData) (t : Constraint) → IsConstraint l [] t → IsUndecided t
not_decided l (Min c k) h = tt
not_decided l (Max c k) h = tt
not_decided l (Entry c) h = tt
not_decided l (Visit c k) h = tt
not_decided l (Repeat c k) h = tt
not_decided l (Decided i) h = absurd (omega (arith, h.0))

-- ---- decided constraints

some_one : (o : Option ℕ) → IsSome o → (x : ℕ) × (o ≡ Some x)
some_one None h = cc
some_one (Some x) h = (x, refl)

-- a duration that is settled stays
low_stays : (l : LineData) (path : List Decision) (i c k t u : ℕ) → FitsPath l path
    → tank_below l (take i path) c k ≡ Some t
    → tank_below l (take i path) c (k + 1) ≡ Some u → low l path c k ≡ low l (take i path) c k
low_stays l path i c k t u fits e e' =
    low_is l path c k t u (tank_stays l path i c k t fits e) (tank_stays l path i c (k + 1) u fits e') ∙ sym (low_is l (take i path) c k t u e e')

low_before : (l : LineData) (path : List Decision) (i c k u : ℕ) → FitsPath l path → 0 < k
    → HasBegin l (take i path) c k
    → tank_below l (take i path) c k ≡ Some u → low l path c (k - 1) ≡ low l (take i path) c (k - 1)
low_before l path i c k u fits some has e =
    let before = some_one (tank_below l (take i path) c (k - 1)) (has some) in
    let next : k ≡ k - 1 + 1 = omega (arith, some) in
    let P : ℕ → Type 0 = λ j. tank_below l (take i path) c j ≡ Some u in
    low_stays l path i c (k - 1) before.0 u fits before.1 (subst P next e)

begin_stays : (l : LineData) (path : List Decision) (i c k u : ℕ) → FitsPath l path → HasBegin l (take i path) c k
    → tank_below l (take i path) c k ≡ Some u
    → begin_of l (low l path) c k ≡ begin_of l (low l (take i path)) c k
begin_stays l path i c zero u fits has e = refl
begin_stays l path i c (suc k) u fits has e =
    let same = low_before l path i c (suc k) u fits (omega arith) has e in
    ap (λ (n : ℕ). begin_of l (λ c' k'. n) c (suc k)) same

end_stays : (l : LineData) (path : List Decision) (i c k u : ℕ) → FitsPath l path → 1 ≤ last_stage l
    → HasBegin l (take i path) c k
    → tank_below l (take i path) c k ≡ Some u → end_of l (low l path) c k ≡ end_of l (low l (take i path)) c k
end_stays l path i c k u fits some has e =
    ⊎_elim
    (λ is.
    let at : k - 1 ≡ last_step l = omega (arith, is) in
    let before = low_before l path i c k u fits (omega (arith, is, some)) has e in
    let P : ℕ → Type 0 = λ j. low l path c j ≡ low l (take i path) c j in
    let same : low l path c (last_step l) ≡ low l (take i path) c (last_step l) = subst P at before in
    ap (λ (n : ℕ). end_of l (λ c' k'. n) c k) same)
    (λ not.
    let off : (k == last_stage l) ≡ false = ne_eqb k (last_stage l) not in
    let inner : (n : ℕ) → end_of l (λ c' k'. n) c k ≡ record { carrier = c; step = k; fixed = pos (stage l k).lift } =
    λ n. ap (λ (b : Bool). cond b (let m : Moment = record { carrier = c; step = last_step l; fixed = pos (n + l.unload) } in m)
    (let m : Moment = record { carrier = c; step = k; fixed = pos (stage l k).lift } in m)) off in
    inner (low l path c (last_step l)) ∙ sym (inner (low l (take i path) c (last_step l))))
    (cases_eq k (last_stage l))

abbrev tank_moments : LineData → ℤ → ℕ → Moment → Moment → Moment → Moment → Arc
tank_moments l q child ea bb eb ba = cond (child == 0) (moment_arc l ea bb q) (moment_arc l eb ba (neg_ℤ q))

some_span : (o : Option Span) → IsSome o → (s : Span) × (o ≡ Some s)
some_span None h = cc
some_span (Some s) h = (s, refl)

-- what an order asks stays below it
pub decided_stays : (l : LineData) (path : List Decision) (i : ℕ) (q : Question) (child : ℕ) → FitsPath l path
    → 2 ≤ length l.stages → Stands l (take i path) q
    → decided_arc l path q child ≡ decided_arc l (take i path) q child
decided_stays l path i (Assign m) child fits two s = refl
decided_stays l path i (TankOrder a b q) child fits two s =
    let some : 1 ≤ last_stage l = omega (arith, two) in
    let ea = end_stays l path i a.carrier a.stage s.tank fits some s.first_begin s.first_tank in
    let eb = end_stays l path i b.carrier b.stage s.tank fits some s.second_begin s.second_tank in
    let ba = begin_stays l path i a.carrier a.stage s.tank fits s.first_begin s.first_tank in
    let bb = begin_stays l path i b.carrier b.stage s.tank fits s.second_begin s.second_tank in
    let old = low l (take i path) in
    let new = low l path in
    ap (λ (m : Moment). tank_moments l q child m (begin_of l new b.carrier b.stage) (end_of l new b.carrier b.stage) (begin_of l new a.carrier a.stage)) ea
    ∙ ap (λ (m : Moment). tank_moments l q child (end_of l old a.carrier a.stage) m (end_of l new b.carrier b.stage) (begin_of l new a.carrier a.stage)) bb
    ∙ ap (λ (m : Moment). tank_moments l q child (end_of l old a.carrier a.stage) (begin_of l old b.carrier b.stage) m (begin_of l new a.carrier a.stage)) eb
    ∙ ap (λ (m : Moment). tank_moments l q child (end_of l old a.carrier a.stage) (begin_of l old b.carrier b.stage) (end_of l old b.carrier b.stage) m) ba
decided_stays l path i (HoistOrder a b q) child fits two s =
    let r = some_span (clash_below l (take i path) a b) s.clash in
    ap (λ (o : Option Span). span_arc l a b q child o) (clash_stays l path i a b r.0 fits r.1 ∙ sym r.1)
decided_stays l path i (Choose v) child fits two s = refl

-- what decision j asks is settled by the decisions up to it
pub decided_at : (l : LineData) (path : List Decision) (n j : ℕ) → FitsPath l path → 2 ≤ length l.stages → j < n
    → n ≤ length path
    → arc_of l (take n path) (Decided j) ≡ decided_arc l (take j path) (decision_at path j).question (decision_at path j).child
decided_at l path n j fits two lt le =
    let d = decision_at path j in
    let here : decision_at (take n path) j ≡ d = get_or-take n path j no_decision lt in
    let prefix : take j (take n path) ≡ take j path = take-take j n path (omega (arith, lt)) in
    let P : List Decision → Type 0 = λ ds. Stands l ds d.question in
    let stands = subst P (sym prefix) (fits j (omega (arith, lt, le))).question.stands in
    ap (λ (e : Decision). decided_arc l (take n path) e.question e.child) here
    ∙ decided_stays l (take n path) j d.question d.child (fits-take l path n fits) two stands
    ∙ ap (λ (ds : List Decision). decided_arc l ds d.question d.child) prefix

-- ---- lists

pub map_same : (f g : Constraint → Arc) (xs : List Constraint) → ((t : Constraint) → In xs t → f t ≡ g t)
    → map f xs ≡ map g xs
map_same f g [] h = refl
map_same f g (x ∷ xs) h =
    ap (λ (a : Arc). a ∷ map f xs) (h x (inl refl)) ∙ ap (λ (bs : List Arc). g x ∷ bs) (map_same f g xs (λ t more. h t (inr more)))

decided-push : (j : ℕ) (ds : List Decision) (d : Decision)
    → decided_list j (ds ++ d ∷ []) ≡ decided_list j ds ++ decided_by d.question (j + length ds)
decided-push j [] d = let e : j ≡ j + 0 = omega arith in append-nil (decided_by d.question j) ∙ ap (λ (n : ℕ). decided_by d.question n) e
decided-push j (x ∷ ds) d =
    let e : j + 1 + length ds ≡ j + suc (length ds) = omega arith in
    ap (λ (ts : List Constraint). decided_by x.question j ++ ts) (decided-push (j + 1) ds d)
    ∙ sym (append_assoc (decided_by x.question j) (decided_list (j + 1) ds) (decided_by d.question (j + 1 + length ds)))
    ∙ ap (λ (n : ℕ). decided_by x.question j ++ decided_list (j + 1) ds ++ decided_by d.question n) e

pub decided_more : (path : List Decision) (i : ℕ) → i < length path
    → decided_list 0 (take (i + 1) path) ≡ decided_list 0 (take i path) ++ decided_by (decision_at path i).question i
decided_more path i lt =
    let e : 0 + length (take i path) ≡ i = omega (arith, lt, length-take i path) in
    ap (λ (ds : List Decision). decided_list 0 ds) (take_more path i no_decision lt) ∙ decided-push 0 (take i path) (decision_at path i)
    ∙ ap (λ (n : ℕ). decided_list 0 (take i path) ++ decided_by (decision_at path i).question n) e

-- the earlier decided constraints are as before
pub earlier_same : (l : LineData) (path : List Decision) (i : ℕ) → FitsPath l path → 2 ≤ length l.stages
    → i < length path → (t : Constraint)
    → In (decided_list 0 (take i path)) t → arc_of l (take (i + 1) path) t ≡ arc_of l (take i path) t
earlier_same l path i fits two lt t h =
    let r = from_decided 0 (take i path) t h in
    let e : 0 + r.number ≡ r.number = omega arith in
    let is : t ≡ Decided r.number = r.is ∙ ap (λ (n : ℕ). Decided n) e in
    let below : r.number < i = omega (arith, r.there, length-take i path) in
    let P : Constraint → Type 0 = λ x. arc_of l (take (i + 1) path) x ≡ arc_of l (take i path) x in
    subst P (sym is)
    (decided_at l path (i + 1) r.number fits two (omega (arith, below)) (omega (arith, lt)) ∙ sym
    (decided_at l path i r.number fits two below (omega (arith, lt))))

-- ---- one decision more

no_choice_by : (q : Question) (c k child : ℕ) → IsOrder q → choice_by c k q child ≡ None
no_choice_by (Assign m) c k child h = refl
no_choice_by (TankOrder a b q) c k child h = refl
no_choice_by (HoistOrder a b q) c k child h = refl
no_choice_by (Choose v) c k child h = absurd h

pub or_none : (o : Option ℕ) → option_or o None ≡ o
or_none None = refl
or_none (Some x) = refl

-- a visit that the decision does not choose for has the tanks that it had
pub choice_more : (path : List Decision) (i c k : ℕ) → i < length path
    → choice_by c k (decision_at path i).question (decision_at path i).child ≡ None
    → choice_of (take (i + 1) path) c k ≡ choice_of (take i path) c k
choice_more path i c k lt none =
    let d = decision_at path i in
    ap (λ (ds : List Decision). choice_of ds c k) (take_more path i no_decision lt) ∙ choice-append (take i path) (d ∷ []) c k
    ∙ ap (λ (o : Option ℕ). option_or (choice_of (take i path) c k) (option_or o None)) none ∙ or_none (choice_of (take i path) c k)

-- where no tank is chosen, only the decision's own constraint is new
pub grown : (l : LineData) (path : List Decision) (i : ℕ) → FitsPath l path → 2 ≤ length l.stages → i < length path
    → ((c k : ℕ) → choice_by c k (decision_at path i).question (decision_at path i).child ≡ None)
    → arcs_of l (take (i + 1) path) ≡ arcs_of l (take i path) ++ map (arc_of l (take (i + 1) path)) (decided_by (decision_at path i).question i)
grown l path i fits two lt none =
    let new = take (i + 1) path in
    let old = take i path in
    let u = undecided_list l in
    let ds = decided_list 0 old in
    let more = decided_by (decision_at path i).question i in
    let a = arc_of l new in
    let motions : (c k : ℕ) → motions_below l new c k ≡ motions_below l old c k =
    λ c k. motions_same l new old c k (choice_more path i c k lt (none c k)) (choice_more path i c (k + 1) lt (none c (k + 1))) in
    let standing : map a u ≡ map (arc_of l old) u =
    map_same a (arc_of l old) u (λ t h. undecided_same t h motions) in
    let earlier : map a ds ≡ map (arc_of l old) ds = map_same a (arc_of l old) ds (λ t h. earlier_same l path i fits two lt t h) in
    ap (λ (ts : List Constraint). map a (u ++ ts)) (decided_more path i lt)
    ∙ map-append a u (ds ++ more) ∙ ap (λ (bs : List Arc). map a u ++ bs) (map-append a ds more)
    ∙ ap (λ (bs : List Arc). bs ++ (map a ds ++ map a more)) standing
    ∙ ap (λ (bs : List Arc). map (arc_of l old) u ++ (bs ++ map a more)) earlier
    ∙ sym (append_assoc (map (arc_of l old) u) (map (arc_of l old) ds) (map a more))
    ∙ ap (λ (bs : List Arc). bs ++ map a more) (sym (map-append (arc_of l old) u ds))
  where
    undecided_is : (t : Constraint) → In (undecided_list l) t → IsUndecided t
    undecided_is t h = not_decided l t (from_undecided l [] t h)

    undecided_same : (t : Constraint) → In (undecided_list l) t
        → ((c k : ℕ) → motions_below l (take (i + 1) path) c k ≡ motions_below l (take i path) c k)
        → arc_of l (take (i + 1) path) t ≡ arc_of l (take i path) t
    undecided_same t h motions = arc_same l (take (i + 1) path) (take i path) t (undecided_is t h) (from_undecided l (take (i + 1) path) t h)
        (λ c k of. motions c k)

-- an order puts its own constraint behind the others
pub ordered : (l : LineData) (path : List Decision) (i : ℕ) → FitsPath l path → 2 ≤ length l.stages → i < length path
    → IsOrder (decision_at path i).question
    → arcs_of l (take (i + 1) path) ≡ arcs_of l (take i path) ++ decided_arc l (take (i + 1) path) (decision_at path i).question (decision_at path i).child ∷ []
ordered l path i fits two lt order =
    let d = decision_at path i in
    let new = take (i + 1) path in
    let one : decided_by d.question i ≡ Decided i ∷ [] = by_order d.question order in
    let here : decision_at new i ≡ d = get_or-take (i + 1) path i no_decision (omega arith) in
    grown l path i fits two lt (λ c k. no_choice_by d.question c k d.child order)
    ∙ ap (λ (ts : List Constraint). arcs_of l (take i path) ++ map (arc_of l new) ts) one
    ∙ ap (λ (e : Decision). arcs_of l (take i path) ++ decided_arc l new e.question e.child ∷ []) here
  where
    by_order : (q : Question) → IsOrder q → decided_by q i ≡ Decided i ∷ []
    by_order (Assign m) h = absurd h
    by_order (TankOrder a b q) h = refl
    by_order (HoistOrder a b q) h = refl
    by_order (Choose v) h = absurd h

-- an assigned hoist changes no constraint
pub assigned_same : (l : LineData) (path : List Decision) (i : ℕ) (m : MoveId) → FitsPath l path → 2 ≤ length l.stages
    → i < length path
    → (decision_at path i).question ≡ Assign m
    → arcs_of l (take (i + 1) path) ≡ arcs_of l (take i path)
assigned_same l path i m fits two lt is =
    let d = decision_at path i in
    let new = take (i + 1) path in
    grown l path i fits two lt (λ c k. ap (λ (q : Question). choice_by c k q d.child) is)
    ∙ ap (λ (q : Question). arcs_of l (take i path) ++ map (arc_of l new) (decided_by q i)) is ∙ append-nil (arcs_of l (take i path))

-- ---- a chosen tank

get_left : {A : Type 0} (xs ys : List A) (i : ℕ) (d : A) → i < length xs → get_or (xs ++ ys) i d ≡ get_or xs i d
get_left [] ys i d lt = absurd (omega (arith, lt))
get_left (x ∷ xs) ys zero d lt = refl
get_left (x ∷ xs) ys (suc i) d lt = get_left xs ys i d (omega (arith, lt))

get_right : {A : Type 0} (xs ys : List A) (i : ℕ) (d : A) → length xs ≤ i → i < length (xs ++ ys)
    → In ys (get_or (xs ++ ys) i d)
get_right [] ys i d le lt = in_at ys i d lt
get_right (x ∷ xs) ys zero d le lt = absurd (omega (arith, le))
get_right (x ∷ xs) ys (suc i) d le lt = get_right xs ys i d (omega (arith, le)) (omega (arith, lt))

both_or : (a b c d : ℕ) → ((a ≡ b) × (c ≡ d)) ⊎ ((a ≡ b) × (c ≡ d) → ⊥)
both_or a b c d =
    ⊎_elim (λ e. ⊎_elim (λ f. inl (e, f)) (λ ne. inr (λ r. ne r.1)) (cases_eq c d)) (λ ne. inr (λ r. ne r.0)) (cases_eq a b)

of_move_or : (c k : ℕ) (t : Constraint) → IsOfMove c k t ⊎ (IsOfMove c k t → ⊥)
of_move_or c k (Min c' k') = both_or c' c k' (k + 1)
of_move_or c k (Max c' k') = both_or c' c k' (k + 1)
of_move_or c k (Entry c') = inr (λ h. h)
of_move_or c k (Visit c' k') = both_or c' c k' (k + 1)
of_move_or c k (Repeat c' k') = both_or c' c k' k
of_move_or c k (Decided i) = inr (λ h. h)

of_visit_or : (c k : ℕ) (t : Constraint) → IsOfVisit c k t ⊎ (IsOfVisit c k t → ⊥)
of_visit_or c k t =
    ⊎_elim (λ h. inl (inl h))
    (λ other. ⊎_elim (λ h. inl (inr h)) (λ nor. inr (λ h. ⊎_elim (λ a. other a) (λ b. nor b) h)) (of_move_or c k t))
    (of_move_or c (k - 1) t)

-- two moves of one constraint are the same
one_move : (c k c' k' : ℕ) (t : Constraint) → IsOfMove c k t → IsOfMove c' k' t → (c ≡ c') × (k ≡ k')
one_move c k c' k' (Min a b) h g = (sym h.0 ∙ g.0, omega (arith, h.1, g.1))
one_move c k c' k' (Max a b) h g = (sym h.0 ∙ g.0, omega (arith, h.1, g.1))
one_move c k c' k' (Entry a) h g = absurd h
one_move c k c' k' (Visit a b) h g = (sym h.0 ∙ g.0, omega (arith, h.1, g.1))
one_move c k c' k' (Repeat a b) h g = (sym h.0 ∙ g.0, sym h.1 ∙ g.1)
one_move c k c' k' (Decided i) h g = absurd h

pub no_choice_at : (v : VisitId) (c k child : ℕ) → ((v.carrier ≡ c) × (v.stage ≡ k) → ⊥)
    → choice_by c k (Choose v) child ≡ None
no_choice_at v c k child other = ⊎_elim
    (λ e. ⊎_elim (λ f. absurd (other (e, f))) (λ ne. second e (ne_eqb v.stage k ne)) (cases_eq v.stage k))
    (λ ne. first (ne_eqb v.carrier c ne)) (cases_eq v.carrier c)
  where
    first : (v.carrier == c) ≡ false → choice_by c k (Choose v) child ≡ None
    first e = ap (λ (b : Bool). cond (b && (v.stage == k)) (Some child) None) e

    and_false : (b : Bool) → (b && false) ≡ false
    and_false true = refl
    and_false false = refl

    second : v.carrier ≡ c → (v.stage == k) ≡ false → choice_by c k (Choose v) child ≡ None
    second e f =
        ap (λ (b : Bool). cond ((v.carrier == c) && b) (Some child) None) f
        ∙ ap (λ (b : Bool). cond b (Some child) None) (and_false (v.carrier == c))

-- a constraint that doesn't depend on the visit's moves is as before
pub other_same : (l : LineData) (path : List Decision) (i : ℕ) (v : VisitId) (t : Constraint) → i < length path
    → (decision_at path i).question ≡ Choose v
    → 1 ≤ v.stage → IsUndecided t → IsConstraint l (take (i + 1) path) t
    → (IsOfVisit v.carrier v.stage t → ⊥) → arc_of l (take (i + 1) path) t ≡ arc_of l (take i path) t
other_same l path i v t lt is some u h other =
    let d = decision_at path i in
    let chosen : (c k : ℕ) → ((v.carrier ≡ c) × (v.stage ≡ k) → ⊥) → choice_of (take (i + 1) path) c k ≡ choice_of (take i path) c k =
    λ c k ne. choice_more path i c k lt (ap (λ (q : Question). choice_by c k q d.child) is ∙ no_choice_at v c k d.child ne) in
    arc_same l (take (i + 1) path) (take i path) t u h (λ c k of.
    motions_same l (take (i + 1) path) (take i path) c k
    (chosen c k (λ r. let P : ℕ → Type 0 = λ n. IsOfMove n v.stage t in let Q : ℕ → Type 0 = λ n. IsOfMove c n t in other
    (inr (subst P (sym r.0) (subst Q (sym r.1) of)))))
    (chosen c (k + 1) (λ r.
    let e : k ≡ v.stage - 1 = omega (arith, r.1, some) in
    let P : ℕ → Type 0 = λ n. IsOfMove n (v.stage - 1) t in let Q : ℕ → Type 0 = λ n. IsOfMove c n t in other (inl (subst P (sym r.0) (subst Q e of))))))

abbrev no_arc : Arc
no_arc = record { from = 0; to = 0; w = pos 0; q = pos 0 }

pub move_undecided : (c k : ℕ) (t : Constraint) → IsOfMove c k t → IsUndecided t
move_undecided c k (Min a b) h = tt
move_undecided c k (Max a b) h = tt
move_undecided c k (Entry a) h = tt
move_undecided c k (Visit a b) h = tt
move_undecided c k (Repeat a b) h = tt
move_undecided c k (Decided i) h = absurd h

-- what the places hold after the visit's constraints were written
pub chosen_at : (l : LineData) (path : List Decision) (i : ℕ) (v : VisitId) (old new : SystemData) → FitsPath l path
    → 2 ≤ length l.stages → i < length path
    → (decision_at path i).question ≡ Choose v → 1 ≤ v.stage → old.arcs ≡ arcs_of l (take i path)
    → Rewrites l (take (i + 1) path) (IsOfVisit v.carrier v.stage) old new → (j : ℕ)
    → j < length (constraint_list l (take i path))
    → get_or new.arcs j no_arc ≡ arc_of l (take (i + 1) path) (get_or (constraint_list l (take i path)) j (Entry 0))
chosen_at l path i v old new fits two lt is some before rewrites j below =
    let P' = take (i + 1) path in
    let P = take i path in
    let names = constraint_list l P in
    let u = undecided_list l in
    let t = get_or names j (Entry 0) in
    let was : get_or old.arcs j no_arc ≡ arc_of l P t = ap (λ (bs : List Arc). get_or bs j no_arc) before ∙ get_or-map (arc_of l P) names j (Entry 0) no_arc
    below in
    ⊎_elim
    (λ same.
    ⊎_elim
    (λ first.
    let at : t ≡ get_or u j (Entry 0) = get_left u (decided_list 0 P) j (Entry 0) first in
    let Listed : Constraint → Type 0 = λ x. In u x in
    let listed : In u t = subst Listed (sym at) (in_at u j (Entry 0) first) in
    let undecided = not_decided l t (from_undecided l [] t listed) in
    let is_there = from_undecided l P' t listed in
    let place_is : place l t ≡ j = ap (place l) at ∙ place_at l j (Entry 0) (omega (arith, first, length_undecided l)) in
    ⊎_elim
    (λ of. ap (λ (n : ℕ). get_or new.arcs n no_arc) (sym place_is) ∙ rewrites.changed t is_there of)
    (λ other. same ∙ was ∙ sym (other_same l path i v t lt is some undecided is_there other))
    (of_visit_or v.carrier v.stage t))
    (λ past.
    let h : In (decided_list 0 P) t = get_right u (decided_list 0 P) j (Entry 0) past below in
    same ∙ was ∙ sym (earlier_same l path i fits two lt t h))
    (cases_lt j (length u)))
    (λ written.
    let x = written.0 in
    let undecided : IsUndecided x = ⊎_elim (λ h. move_undecided v.carrier (v.stage - 1) x h) (λ h. move_undecided v.carrier v.stage x h) written.2 in
    let r = placed l P' x (Entry 0) two undecided written.1 in
    let first : j < length u = omega (arith, r.there, written.3, length_undecided l) in
    let at : t ≡ x = get_left u (decided_list 0 P) j (Entry 0) first ∙ ap (λ (n : ℕ). get_or u n (Entry 0)) (sym written.3) ∙ r.is in
    ap (λ (n : ℕ). get_or new.arcs n no_arc) (sym written.3) ∙ rewrites.changed x written.1 written.2 ∙ ap (λ (y : Constraint). arc_of l P' y) (sym at))
    (rewrites.others j)

-- a chosen tank changes the constraints of the moves before and after its visit
pub chosen_same : (l : LineData) (path : List Decision) (i : ℕ) (v : VisitId) (old new : SystemData) → FitsPath l path
    → 2 ≤ length l.stages → i < length path
    → (decision_at path i).question ≡ Choose v → 1 ≤ v.stage → old.arcs ≡ arcs_of l (take i path)
    → Rewrites l (take (i + 1) path) (IsOfVisit v.carrier v.stage) old new → new.arcs ≡ arcs_of l (take (i + 1) path)
chosen_same l path i v old new fits two lt is some before rewrites =
    let P' = take (i + 1) path in
    let P = take i path in
    let names : constraint_list l P' ≡ constraint_list l P =
    ap (λ (ts : List Constraint). undecided_list l ++ ts) (decided_more path i lt ∙ ap (λ (q : Question). decided_list 0 P ++ decided_by q i) is ∙ append-nil
    (decided_list 0 P)) in
    let count : length new.arcs ≡ length (constraint_list l P) =
    rewrites.count ∙ ap (λ (bs : List Arc). length bs) before ∙ length-map (constraint_list l P) (arc_of l P) in
    ext_get_or no_arc new.arcs (map (arc_of l P') (constraint_list l P)) (count ∙ sym (length-map (constraint_list l P) (arc_of l P')))
    (λ j lt'.
    let below : j < length (constraint_list l P) = omega (arith, lt', count) in
    chosen_at l path i v old new fits two lt is some before rewrites j below ∙ sym (get_or-map (arc_of l P') (constraint_list l P) j (Entry 0) no_arc below))
    ∙ ap (λ (ts : List Constraint). map (arc_of l P') ts) (sym names)
