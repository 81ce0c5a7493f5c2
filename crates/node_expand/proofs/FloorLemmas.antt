-- Periods and ticks that keep the constraints of a path.
use Rattle.std.proofs.Common.{⊎_elim, ◌≡◌, ℕ, zero, suc, ◌+◌, ◌-◌, ◌*◌, ◌/◌, ◌%◌, ◌<◌, ◌≤◌, List, [], ◌∷◌, ◌++◌, length, map, min, refl, sym, ◌∙◌, ap, subst, arith, pos, ℤ, Bool, cond, Some, None}
use Rattle.std.specs.Prelude.{Option, flat_map, fold, negsuc, unsigned_abs}
use Rattle.std.proofs.lemmas.Bool.{cases_lt, ne_eqb}
use Rattle.std.proofs.lemmas.Int.{ints}
use Rattle.std.proofs.lemmas.List.{get_or_past, length-map}
use Rattle.hoist_base.specs.LineData.{LineData, stage, last_stage, last_step, move_number, move_count, move_at, IsMove}
use Rattle.hoist_base.specs.Valid.{IsLine}
use Rattle.hoist_base.proofs.NumberLemmas.{row_below, move_there, number_of_move}
use Rattle.line_model.specs.declared.motion.Motion.{Motion}
use Rattle.line_model.specs.Motion.{motion_between}
use Rattle.longest_path.specs.declared.systems.Arc.{Arc}
use Rattle.longest_path.specs.System.{arc, Leads, IsReached, Solves}
use Rattle.cycle_walk.specs.Closed.{IsFeasible}
use Rattle.choice_tree.specs.declared.question.Decision.{Decision}
use Rattle.choice_tree.specs.declared.constraint.Constraint.{Constraint}
use Rattle.choice_tree.specs.declared.constraint.Constraint.TheVariants.{Min, Entry, Repeat}
use Rattle.path_constraints.specs.Tanks.{choice_of, tanks_by, tanks_below, motions_below, there_and_back, least_of, back}
use Rattle.path_constraints.specs.Constraints.{IsConstraint, constraint_list, arc_of, arcs_of, entry_arc}
use Rattle.path_constraints.specs.Places.{system_below}
use Rattle.path_constraints.specs.Ticks.{tick_at, AreTicks}
use Rattle.path_constraints.proofs.NameLemmas.{place_in, in_list}
use Rattle.path_constraints.proofs.SpreadLemmas.{keeps_all, spread}
use Rattle.node_expand.proofs.WalkLemmas.{arc_named}

-- ---- no period below 2

abbrev Over : ℕ → List Motion → Type 0
Over n [] = Unit {0}
Over n (m ∷ ms) = (n ≤ there_and_back m) × Over n ms

over-append : (n : ℕ) (xs ys : List Motion) → Over n xs → Over n ys → Over n (xs ++ ys)
over-append n [] ys h k = k
over-append n (x ∷ xs) ys h k = (h.0, over-append n xs ys h.1 k)

over_row : (n : ℕ) (row : ℕ → Motion) (ys : List ℕ) → ((j : ℕ) → n ≤ there_and_back (row j)) → Over n (map row ys)
over_row n row [] h = tt
over_row n row (y ∷ ys) h = (h y, over_row n row ys h)

over_rows : (n : ℕ) (mb : ℕ → ℕ → Motion) (xs ys : List ℕ) → ((i j : ℕ) → n ≤ there_and_back (mb i j))
    → Over n (flat_map (λ i. map (λ j. mb i j) ys) xs)
over_rows n mb [] ys h = tt
over_rows n mb (x ∷ xs) ys h =
    over-append n (map (λ j. mb x j) ys) (flat_map (λ i. map (λ j. mb i j) ys) xs) (over_row n (λ j. mb x j) ys (h x)) (over_rows n mb xs ys h)

fold_over : (n a : ℕ) (ms : List Motion) → n ≤ a → Over n ms → n ≤ fold min a (map there_and_back ms)
fold_over n a [] le h = le
fold_over n a (m ∷ ms) le h = fold_over n (min a (there_and_back m)) ms (omega (arith, le, h.0)) h.1

least_over : (n : ℕ) (ms : List Motion) → 1 ≤ length ms → Over n ms → n ≤ least_of (map there_and_back ms)
least_over n [] some h = absurd (omega (arith, some))
least_over n (m ∷ ms) some h = fold_over n (there_and_back m) ms h.0 h.1

some_by : (tanks : List ℕ) (o : Option ℕ) → 1 ≤ length tanks → 1 ≤ length (tanks_by tanks o)
some_by tanks None some = some
some_by tanks (Some n) some = omega arith

pub some_tanks : (l : LineData) (path : List Decision) (c k : ℕ) → IsLine l → k < length l.stages
    → 1 ≤ length (tanks_below l path c k)
some_tanks l path c k line lt = some_by (stage l k).tanks (choice_of path c k) (line.stages.count k lt).0

some_rows : (mb : ℕ → ℕ → Motion) (xs ys : List ℕ) → 1 ≤ length xs → 1 ≤ length ys
    → 1 ≤ length (flat_map (λ i. map (λ j. mb i j) ys) xs)
some_rows mb [] ys some some' = absurd (omega (arith, some))
some_rows mb (x ∷ xs) [] some some' = absurd (omega (arith, some'))
some_rows mb (x ∷ xs) (y ∷ ys) some some' = omega arith

back_some : (l : LineData) (path : List Decision) (c k : ℕ) → IsLine l → k + 1 < length l.stages → 2 ≤ back l path c k
back_some l path c k line step =
    let mb : ℕ → ℕ → Motion = λ i j. motion_between l k i j in
    let xs = tanks_below l path c k in
    let ys = tanks_below l path c (k + 1) in
    least_over 2 (motions_below l path c k) (some_rows mb xs ys (some_tanks l path c k line (omega (arith, step))) (some_tanks l path c (k + 1) line step))
    (over_rows 2 mb xs ys (λ i j. omega (arith, (line.times.lift k step).0, (line.times.lower k step).0)))

pub not_one : (l : LineData) (path : List Decision) → IsLine l → IsFeasible (system_below l path) 1 → ⊥
not_one l path line (t, solves) =
    let two = line.limits.stages.0 in
    let kept = keeps_all l path t 1 line solves (Repeat 0 0) (omega (arith, line.limits.degree.0), omega arith) in
    omega (arith, ints, kept, back_some l path 0 0 line (omega (arith, two)))

-- ---- node 0 reaches every node

on : (l : LineData) (path : List Decision) (t : Constraint) (i j : ℕ) → IsLine l → IsConstraint l path t
    → (arc_of l path t).from ≡ i → (arc_of l path t).to ≡ j
    → IsReached (system_below l path) i → IsReached (system_below l path) j
on l path t i j line is from to r =
    let at = place_in (constraint_list l path) t (Entry 0) (in_list l path t line.limits.stages.0 is) in
    let lt : at.0 < length (arcs_of l path) = omega (arith, at.1, length-map (constraint_list l path) (arc_of l path)) in
    let e : arc (system_below l path) at.0 ≡ arc_of l path t = arc_named l path at.0 lt ∙ ap (arc_of l path) at.2 in
    let P : ℕ → Type 0 = λ n. Leads (system_below l path) 0 r.0 n in
    let back_there : Leads (system_below l path) 0 r.0 (arc (system_below l path) at.0).from = subst P (sym (ap (λ (a : Arc). a.from) e ∙ from)) r.1 in
    (at.0 ∷ r.0, (lt, ap (λ (a : Arc). a.to) e ∙ to, back_there))

carrier_reached : (l : LineData) (path : List Decision) (c : ℕ) → IsLine l → c < l.degree
    → IsReached (system_below l path) (move_number l c 0)
carrier_reached l path zero line lt = let e : 0 ≡ move_number l 0 0 = omega arith in ([], e)
carrier_reached l path (suc c) line lt =
    let n : suc c ≡ c + 1 = omega arith in
    let inner : c + 1 ≡ l.degree → ⊥ = λ e. omega (arith, e, lt) in
    let arc : Arc = record { from = move_number l c 0; to = move_number l (c + 1) 0; w = pos (l.load + (stage l 0).lift); q = pos 0 } in
    let last : Arc = record { from = move_number l c 0; to = 0; w = pos (l.load + (stage l 0).lift); q = negsuc 0 } in
    let is : entry_arc l c ≡ arc = ap (λ (b : Bool). cond b last arc) (ne_eqb (c + 1) l.degree inner) in
    let to : (entry_arc l c).to ≡ move_number l (suc c) 0 = ap (λ (a : Arc). a.to) is ∙ ap (λ (m : ℕ). move_number l m 0) (sym n) in
    on l path (Entry c) (move_number l c 0) (move_number l (suc c) 0) line (omega (arith, lt)) (ap (λ (a : Arc). a.from) is) to
    (carrier_reached l path c line (omega (arith, lt)))

move_reached : (l : LineData) (path : List Decision) (c k : ℕ) → IsLine l → c < l.degree → k ≤ last_step l
    → IsReached (system_below l path) (move_number l c k)
move_reached l path c zero line lt few = carrier_reached l path c line lt
move_reached l path c (suc k) line lt few =
    let before : suc k - 1 ≡ k = omega arith in
    let from : (arc_of l path (Min c (suc k))).from ≡ move_number l c k = ap (λ (j : ℕ). move_number l c j) before in
    on l path (Min c (suc k)) (move_number l c k) (move_number l c (suc k)) line (lt, omega arith, few) from refl
    (move_reached l path c k line lt (omega (arith, few)))

-- a node by its carrier and step, in the words of the numbers of moves
pub carrier_there : (i d m : ℕ) → 0 < m → i < d * m → i / m < d
carrier_there i d m some lt =
    row_below i d m some lt

pub node_is : (l : LineData) (i : ℕ) → 0 < last_stage l → i ≡ move_number l (i / last_stage l) (i % last_stage l)
node_is l i some = sym (number_of_move l i)

pub node_move : (l : LineData) (i : ℕ) → IsLine l → i < move_count l → IsMove l (i / last_stage l) (i % last_stage l)
node_move l i line lt = move_there l i line lt

pub all_reached : (l : LineData) (path : List Decision) (i : ℕ) → IsLine l → i < move_count l
    → IsReached (system_below l path) i
all_reached l path i line lt =
    let m = move_there l i line lt in
    let P : ℕ → Type 0 = λ n. IsReached (system_below l path) n in
    subst P (number_of_move l i) (move_reached l path (move_at l i).carrier (move_at l i).step line m.0 (omega (arith, m.1)))

-- ---- ticks

tick_near : (l : LineData) (path : List Decision) (s : ℕ → ℤ) (period i : ℕ) → IsLine l
    → Solves (system_below l path) period s → period ≤ 20001 → s 0 ≡ pos 0
    → i < move_count l → unsigned_abs (s i) ≤ 10000000000000
tick_near l path s period i line solves few start lt =
    let c = (move_at l i).carrier in
    let k = (move_at l i).step in
    let keeps = keeps_all l path s period line solves in
    let first : IsMove l 0 0 = (omega (arith, line.limits.degree.0), omega (arith, line.limits.stages.0)) in
    let m : IsMove l c k = move_there l i line lt in
    let here : s (move_number l c k) ≡ s i = ap s (number_of_move l i) in
    let zero_is : s (move_number l 0 0) ≡ s 0 = ap s (omega arith) in
    omega (arith, ints, spread l path s period c k 0 0 line keeps m first, spread l path s period 0 0 c k line keeps first m, here, zero_is, start, few)

pub are_ticks : (l : LineData) (path : List Decision) (ticks : List ℤ) (period : ℕ) → IsLine l
    → Solves (system_below l path) period (tick_at ticks)
    → period ≤ 20001 → tick_at ticks 0 ≡ pos 0 → length ticks ≡ move_count l → AreTicks l ticks
are_ticks l path ticks period line solves few start count = (
  count,
  λ i.
      ⊎_elim (λ lt. tick_near l path (tick_at ticks) period i line solves few start lt)
      (λ past. let e : tick_at ticks i ≡ pos 0 = get_or_past ticks i (pos 0) (omega (arith, past, count)) in omega (arith, ints, e))
      (cases_lt i (move_count l)),
)
