-- A path has one expansion under a cap.
use Rattle.std.proofs.Common.{⊎_elim, inl, inr, ◌≡◌, ℕ, zero, suc, ◌<◌, ◌≤◌, List, [], ◌∷◌, length, get_or, refl, sym, ◌∙◌, ap, subst, arith, ℤ, Some, None}
use Rattle.std.specs.Prelude.{Option, option_map}
use Rattle.std.proofs.lemmas.Bool.{cases_order}
use Rattle.hoist_base.specs.LineData.{LineData, move_number, move_count, IsVisit, move_at, visit_at, IsMove}
use Rattle.hoist_base.specs.Valid.{IsLine}
use Rattle.hoist_base.specs.Routes.{IsRoute, route_tank}
use Rattle.hoist_base.specs.declared.ids.MoveId.{MoveId}
use Rattle.longest_path.specs.System.{IsLeastSolution}
use Rattle.longest_path.proofs.LeastLemmas.{least_is_one}
use Rattle.cycle_walk.specs.Closed.{WalkData}
use Rattle.cycle_walk.specs.declared.climbing.Climbed.TheVariants.{Floor, Shut}
use Rattle.choice_tree.specs.declared.question.Question.{Question}
use Rattle.choice_tree.specs.declared.question.Decision.{Decision}
use Rattle.choice_tree.specs.declared.constraint.Constraint.{Constraint}
use Rattle.path_constraints.specs.Tanks.{tank_below}
use Rattle.path_constraints.specs.Hoists.{hoist_below}
use Rattle.path_constraints.specs.Places.{system_below}
use Rattle.path_constraints.specs.Questions as Questions
use Rattle.period_constraints.specs.Order.{IsFirstQuestion}
use Rattle.path_constraints.specs.Ticks.{tick_at}
use Rattle.node_expand.specs.declared.solved.Solved as plans
use Rattle.node_expand.specs.declared.expanded.Expanded.{Expanded}
use Rattle.node_expand.specs.declared.expanded.Expanded.TheVariants.{Stuck, Closed, Solved, Split}
use Rattle.node_expand.specs.Plannable.{Settles}
use Rattle.node_expand.specs.Expansion.{IsFirstStuck, named, IsShut, IsFloor, IsExpansion}
use Rattle.hoist_base.proofs.NumberLemmas.{move_there, visit_there, number_of_move, number_of_visit}
use Rattle.node_expand.proofs.SettledLemmas.{some_children}
use Rattle.branch_rounds.specs.Grown.{child_count}
use Rattle.branch_rounds.specs.QuestionLemmas.{first_question_is_one}

-- ---- stuck moves

abbrev move_by : ℕ → ℕ → MoveId
move_by c k = record { carrier = c; step = k }

same_move : (m n : MoveId) → m.carrier ≡ n.carrier → m.step ≡ n.step → m ≡ n
same_move m n e f = ap (λ (c : ℕ). move_by c m.step) e ∙ ap (λ (k : ℕ). move_by n.carrier k) f

first_stuck_is_one : (l : LineData) (path : List Decision) (m n : MoveId) → IsFirstStuck l path m
    → IsFirstStuck l path n → m ≡ n
first_stuck_is_one l path m n a b =
    ⊎_elim
    (λ e.
    ⊎_elim
    (λ f. same_move m n e f)
    (λ differ.
    ⊎_elim
    (λ lt. absurd (b.first m.carrier m.step a.move (inr (e, lt)) a.stuck))
    (λ gt. absurd (a.first n.carrier n.step b.move (inr (sym e, gt)) b.stuck))
    differ)
    (cases_order m.step n.step))
    (λ differ.
    ⊎_elim
    (λ lt. absurd (b.first m.carrier m.step a.move (inl lt) a.stuck))
    (λ gt. absurd (a.first n.carrier n.step b.move (inl gt) b.stuck))
    differ)
    (cases_order m.carrier n.carrier)

-- ---- the climb

-- two floors of a climb are one
record SameFloor (period period' : ℕ) (low low' : List Constraint) : Type 0 where
  period_is : period ≡ period'
  low_is : low ≡ low'

floor_is_one : (l : LineData) (path : List Decision) (cap period period' : ℕ) (low low' : List Constraint)
    → IsFloor l path cap period low
    → IsFloor l path cap period' low' → SameFloor period period' low low'
floor_is_one l path cap period period' low low' a b =
    let e : Floor period (Some a.walk) ≡ Floor period' (Some b.walk) = sym a.climb ∙ b.climb in
    let walk : a.walk ≡ b.walk = cc in
    record { period_is = cc; low_is = a.names ∙ ap (λ (w : WalkData). named l path w) walk ∙ sym b.names }

shut_is_one : (l : LineData) (path : List Decision) (cap : ℕ) (low high low' high' : Option (List Constraint))
    → IsShut l path cap low high
    → IsShut l path cap low' high' → (low ≡ low') × (high ≡ high')
shut_is_one l path cap low high low' high' a b =
    let e : Shut a.low_walk a.high_walk ≡ Shut b.low_walk b.high_walk = sym a.climb ∙ b.climb in
    let one : a.low_walk ≡ b.low_walk = cc in
    let two : a.high_walk ≡ b.high_walk = cc in
    let N : Option WalkData → Option (List Constraint) = λ w. option_map (named l path) w in
    (a.low_names ∙ ap N one ∙ sym b.low_names, a.high_names ∙ ap N two ∙ sym b.high_names)

shut_or_floor : (l : LineData) (path : List Decision) (cap period : ℕ) (low high : Option (List Constraint)) (low' : List Constraint)
    → IsShut l path cap low high → IsFloor l path cap period low' → ⊥
shut_or_floor l path cap period low high low' a b =
    let e : Shut a.low_walk a.high_walk ≡ Floor period (Some b.walk) = sym a.climb ∙ b.climb in
    cc

-- ---- solved paths

pub same_numbers : (xs ys : List ℕ) → length xs ≡ length ys → ((i : ℕ) → i < length xs → get_or xs i 0 ≡ get_or ys i 0)
    → xs ≡ ys
same_numbers [] [] e h = refl
same_numbers [] (y ∷ ys) e h = absurd (omega (arith, e))
same_numbers (x ∷ xs) [] e h = absurd (omega (arith, e))
same_numbers (x ∷ xs) (y ∷ ys) e h =
    let head : x ≡ y = h zero (omega arith) in
    ap (λ (z : ℕ). z ∷ xs) head ∙ ap (λ (zs : List ℕ). y ∷ zs) (same_numbers xs ys (omega (arith, e)) (λ i lt. h (suc i) (omega (arith, lt))))

some_same : (o : Option ℕ) (a b : ℕ) → o ≡ Some a → o ≡ Some b → a ≡ b
some_same o a b e f = cc

hoists_are_one : (l : LineData) (path : List Decision) (s s' : plans.Solved) → IsLine l → Settles l path s
    → Settles l path s' → length s.hoists ≡ move_count l
    → length s'.hoists ≡ move_count l → s.hoists ≡ s'.hoists
hoists_are_one l path s s' line a b count count' =
    same_numbers s.hoists s'.hoists (count ∙ sym count')
    (λ i lt.
    let there : i < move_count l = omega (arith, lt, count) in
    let c = (move_at l i).carrier in
    let k = (move_at l i).step in
    let m : IsMove l c k = move_there l i line there in
    let P : ℕ → Type 0 = λ n. get_or s.hoists n 0 ≡ get_or s'.hoists n 0 in
    subst P (number_of_move l i)
    (some_same (hoist_below l path c k) (get_or s.hoists (move_number l c k) 0) (get_or s'.hoists (move_number l c k) 0) (a.hoist c k m) (b.hoist c k m)))

routes_are_one : (l : LineData) (path : List Decision) (s s' : plans.Solved) → IsLine l → Settles l path s
    → Settles l path s' → IsRoute l s.tanks
    → IsRoute l s'.tanks → s.tanks ≡ s'.tanks
routes_are_one l path s s' line a b route route' =
    same_numbers s.tanks s'.tanks (route.count ∙ sym route'.count)
    (λ i lt.
    let c = (visit_at l i).carrier in
    let k = (visit_at l i).stage in
    let v : IsVisit l c k = visit_there l i line (omega (arith, lt, route.count)) in
    let P : ℕ → Type 0 = λ j. get_or s.tanks j 0 ≡ get_or s'.tanks j 0 in
    subst P (number_of_visit l i) (some_same (tank_below l path c k) (route_tank l s.tanks c k) (route_tank l s'.tanks c k) (a.tank c k v) (b.tank c k v)))

abbrev solved_by : ℕ → List ℤ → List ℕ → List ℕ → plans.Solved
solved_by period ticks hoists tanks = record { period = period; ticks = ticks; hoists = hoists; tanks = tanks }

same_solved : (s s' : plans.Solved) → s.period ≡ s'.period → s.ticks ≡ s'.ticks → s.hoists ≡ s'.hoists
    → s.tanks ≡ s'.tanks → s ≡ s'
same_solved s s' period ticks hoists tanks =
    ap (λ (t : ℕ). solved_by t s.ticks s.hoists s.tanks) period ∙ ap (λ (ts : List ℤ). solved_by s'.period ts s.hoists s.tanks) ticks
    ∙ ap (λ (hs : List ℕ). solved_by s'.period s'.ticks hs s.tanks) hoists ∙ ap (λ (r : List ℕ). solved_by s'.period s'.ticks s'.hoists r) tanks

-- least ticks at a period, with a question of them
abbrev Asks : LineData → List Decision → ℕ → Option Question → List ℤ → Type 0
Asks l path period question ticks = IsLeastSolution (system_below l path) period ticks × IsFirstQuestion l path (tick_at ticks) period question

-- at the same period they are the same ticks
asks_same : (l : LineData) (path : List Decision) (period period' : ℕ) (question : Option Question) (ticks ticks' : List ℤ)
    → period ≡ period'
    → IsLeastSolution (system_below l path) period ticks → Asks l path period' question ticks'
    → (ticks ≡ ticks') × IsFirstQuestion l path (tick_at ticks) period question
asks_same l path period period' question ticks ticks' e least asks =
    let P : ℕ → Type 0 = λ t. Asks l path t question ticks' in
    let here = subst P (sym e) asks in
    let same : ticks ≡ ticks' = least_is_one (system_below l path) period ticks ticks' least here.0 in
    let Q : List ℤ → Type 0 = λ ts. IsFirstQuestion l path (tick_at ts) period question in
    (same, subst Q (sym same) here.1)

some_or_none : (l : LineData) (path : List Decision) (ticks : ℕ → ℤ) (period : ℕ) (x : Question)
    → IsFirstQuestion l path ticks period None
    → IsFirstQuestion l path ticks period (Some x) → ⊥
some_or_none l path ticks period x none first = none x (record { stands = first.0.stands; fails = first.1 })

-- ---- all expansions

same_closed : (low low' high high' : Option (List Constraint)) → low ≡ low' → high ≡ high'
    → Closed low high ≡ Closed low' high'
same_closed low low' high high' e f = ap (λ (o : Option (List Constraint)). Closed o high) e ∙ ap (λ (o : Option (List Constraint)). Closed low' o) f

same_split : (x y : Question) (n n' period period' : ℕ) (low low' : List Constraint) → x ≡ y → n ≡ n' → period ≡ period'
    → low ≡ low'
    → Split x n period low ≡ Split y n' period' low'
same_split x y n n' period period' low low' e f g h =
    ap (λ (q : Question). Split q n period low) e ∙ ap (λ (c : ℕ). Split y c period low) f ∙ ap (λ (t : ℕ). Split y n' t low) g ∙ ap
    (λ (w : List Constraint). Split y n' period' w) h

pub expansion_is_one : (l : LineData) (path : List Decision) (cap : ℕ) (x y : Expanded) → IsLine l
    → IsExpansion l path cap x → IsExpansion l path cap y → x ≡ y
expansion_is_one l path cap (Stuck m) (Stuck n) line a b = ap Stuck (first_stuck_is_one l path m n a b)
expansion_is_one l path cap (Stuck m) (Closed low high) line a b = absurd (b.0 m.carrier m.step a.move a.stuck)
expansion_is_one l path cap (Stuck m) (Solved s low) line a b = absurd (b.0 m.carrier m.step a.move a.stuck)
expansion_is_one l path cap (Stuck m) (Split q n period low) line a b = absurd (b.0 m.carrier m.step a.move a.stuck)
expansion_is_one l path cap (Closed low high) (Stuck m) line a b = absurd (a.0 m.carrier m.step b.move b.stuck)
expansion_is_one l path cap (Closed low high) (Closed low' high') line a b =
    let same = shut_is_one l path cap low high low' high' a.1 b.1 in
    same_closed low low' high high' same.0 same.1
expansion_is_one l path cap (Closed low high) (Solved s low') line a b = absurd (shut_or_floor l path cap s.period low high low' a.1 b.1)
expansion_is_one l path cap (Closed low high) (Split q n period low') line a b = absurd (shut_or_floor l path cap period low high low' a.1 b.1)
expansion_is_one l path cap (Solved s low) (Stuck m) line a b = absurd (a.0 m.carrier m.step b.move b.stuck)
expansion_is_one l path cap (Solved s low) (Closed low' high) line a b = absurd (shut_or_floor l path cap s.period low' high low b.1 a.1)
expansion_is_one l path cap (Solved s low) (Solved s' low') line a b =
    let f = floor_is_one l path cap s.period s'.period low low' a.1 b.1 in
    let ticks = (asks_same l path s.period s'.period None s.ticks s'.ticks f.period_is a.2 (b.2, b.3)).0 in
    let solved = same_solved s s' f.period_is ticks (hoists_are_one l path s s' line a.4 b.4 a.6 b.6) (routes_are_one l path s s' line a.4 b.4 a.5 b.5) in
    ap (λ (x : plans.Solved). Solved x low) solved ∙ ap (λ (w : List Constraint). Solved s' w) f.low_is
expansion_is_one l path cap (Solved s low) (Split q n period low') line a b =
    let f = floor_is_one l path cap s.period period low low' a.1 b.1 in
    let asked = asks_same l path s.period period (Some q) s.ticks b.2.0 f.period_is a.2 (b.2.1, b.2.2) in
    absurd (some_or_none l path (tick_at s.ticks) s.period q a.3 asked.1)
expansion_is_one l path cap (Split q n period low) (Stuck m) line a b = absurd (a.0 m.carrier m.step b.move b.stuck)
expansion_is_one l path cap (Split q n period low) (Closed low' high) line a b = absurd (shut_or_floor l path cap period low' high low b.1 a.1)
expansion_is_one l path cap (Split q n period low) (Solved s low') line a b =
    let f = floor_is_one l path cap s.period period low' low b.1 a.1 in
    let asked = asks_same l path s.period period (Some q) s.ticks a.2.0 f.period_is b.2 (a.2.1, a.2.2) in
    absurd (some_or_none l path (tick_at s.ticks) s.period q b.3 asked.1)
expansion_is_one l path cap (Split q n period low) (Split q' n' period' low') line a b =
    let f = floor_is_one l path cap period period' low low' a.1 b.1 in
    let asked = asks_same l path period period' (Some q') a.2.0 b.2.0 f.period_is a.2.1 (b.2.1, b.2.2) in
    let same : q ≡ q' = first_question_is_one l path (tick_at a.2.0) period q q' a.2.2 asked.1 in
    let count : n ≡ n' = a.3 ∙ ap (λ (x : Question). Questions.child_count l path x) same ∙ sym b.3 in
    same_split q q' n n' period period' low low' same count f.period_is f.low_is

-- none has more than six children
pub few_below : (l : LineData) (path : List Decision) (cap : ℕ) (x : Expanded) → IsLine l → IsExpansion l path cap x
    → child_count x ≤ 6
few_below l path cap (Stuck m) line a = omega arith
few_below l path cap (Closed low high) line a = omega arith
few_below l path cap (Solved s low) line a = omega arith
few_below l path cap (Split q n period low) line a = omega (arith, a.3, (some_children l path q line a.0 a.2.2.0).1)
