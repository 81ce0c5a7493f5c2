-- The tanks, motions and durations of a timetable that meets the decisions of a path are among those that the path
-- leaves open.
use Rattle.std.proofs.Common.{⊎_elim, ◌≡◌, ℕ, ◌+◌, ◌≤◌, List, [], ◌∷◌, get_or, map, refl, sym, ◌∙◌, ap, subst, arith, Some, None}
use Rattle.std.specs.Prelude.{Option, Contains, slice_get}
use Rattle.std.proofs.lemmas.Option.{get_or_from_slice_get}
use Rattle.hoist_base.specs.LineData.{LineData, stage, IsMove, IsVisit}
use Rattle.line_model.specs.declared.motion.Motion.{Motion}
use Rattle.line_model.specs.Motion.{duration, motion_between}
use Rattle.line_model.specs.Timetable.{Timetable, motion}
use Rattle.line_model.specs.Legal.{IsLegal}
use Rattle.choice_tree.specs.declared.question.Question.{Question}
use Rattle.choice_tree.specs.declared.question.Decision.{Decision}
use Rattle.path_constraints.specs.Tanks.{decision_at, choice_of, tanks_by, tanks_below, motions_below, there_and_back, least_of, greatest_of, low, high, back, tank_below, motion_below}
use Rattle.path_constraints.specs.Meets.{Meets, MeetsPath}
use Rattle.path_constraints.proofs.Choices.{chosen}
use Rattle.path_constraints.proofs.Settled.{tanks_are, low_is, settled_motion}
use Rattle.list_facts.proofs.Elements.{contains_first, contains_cases, contains_only, contains_map, contains_flat_map, least_first, least_rest, greatest_first, greatest_rest}

-- a tank that the path chooses is the timetable's
pub chosen_tank : (l : LineData) (path : List Decision) (p : Timetable) (c k n : ℕ) → MeetsPath l p path
    → choice_of path c k ≡ Some n
    → slice_get (stage l k).tanks n ≡ Some (p.tank c k)
chosen_tank l path p c k n meets e =
    let r = chosen path c k n e in
    let Q : Question → Type 0 = λ q. Meets l p q (decision_at path r.place).child in
    let A : ℕ → Type 0 = λ j. slice_get (stage l r.visit.stage).tanks j ≡ Some (p.tank r.visit.carrier r.visit.stage) in
    let B : ℕ → Type 0 = λ j. slice_get (stage l j).tanks n ≡ Some (p.tank r.visit.carrier j) in
    let C : ℕ → Type 0 = λ j. slice_get (stage l k).tanks n ≡ Some (p.tank j k) in
    subst C r.carrier (subst B r.stage (subst A r.child (subst Q r.question (meets r.place r.there))))

open_by : (tanks : List ℕ) (o : Option ℕ) (t : ℕ) → Contains tanks t
    → ((n : ℕ) → o ≡ Some n → slice_get tanks n ≡ Some t) → Contains (tanks_by tanks o) t
open_by tanks None t c h = c
open_by tanks (Some n) t c h =
    let e : get_or tanks n 0 ≡ t = get_or_from_slice_get tanks n t 0 (h n refl) in
    let P : ℕ → Type 0 = λ x. Contains (x ∷ []) t in
    subst P (sym e) (contains_first t [])

-- each of its tanks is open to its visit
pub tank_open : (l : LineData) (path : List Decision) (p : Timetable) (c k : ℕ) → IsLegal l p → MeetsPath l p path
    → IsVisit l c k
    → Contains (tanks_below l path c k) (p.tank c k)
tank_open l path p c k legal meets visit =
    open_by (stage l k).tanks (choice_of path c k) (p.tank c k) (legal.routed c k visit) (λ n e. chosen_tank l path p c k n meets e)

pub visit_before : (l : LineData) (c k : ℕ) → IsMove l c k → IsVisit l c k
visit_before l c k move = (move.0, omega (arith, move.1))

pub visit_after : (l : LineData) (c k : ℕ) → IsMove l c k → IsVisit l c (k + 1)
visit_after l c k move = (move.0, omega (arith, move.1))

pub motion_open : (l : LineData) (path : List Decision) (p : Timetable) (c k : ℕ) → IsLegal l p → MeetsPath l p path
    → IsMove l c k
    → Contains (motions_below l path c k) (motion l p c k)
motion_open l path p c k legal meets move =
    contains_flat_map (λ i. map (λ j. motion_between l k i j) (tanks_below l path c (k + 1))) (tanks_below l path c k) (p.tank c k) (motion l p c k)
    (tank_open l path p c k legal meets (visit_before l c k move))
    (contains_map (λ j. motion_between l k (p.tank c k) j) (tanks_below l path c (k + 1)) (p.tank c (k + 1))
    (tank_open l path p c (k + 1) legal meets (visit_after l c k move)))

least_bound : (xs : List ℕ) (y : ℕ) → Contains xs y → least_of xs ≤ y
least_bound [] y c = absurd (omega (arith, c.1))
least_bound (x ∷ xs) y c = ⊎_elim (λ e. omega (arith, e, least_first x xs)) (λ r. least_rest x xs y r) (contains_cases x y xs c)

greatest_bound : (xs : List ℕ) (y : ℕ) → Contains xs y → y ≤ greatest_of xs
greatest_bound [] y c = absurd (omega (arith, c.1))
greatest_bound (x ∷ xs) y c = ⊎_elim (λ e. omega (arith, e, greatest_first x xs)) (λ r. greatest_rest x xs y r) (contains_cases x y xs c)

-- so its durations lie between the bounds of the path
pub low_least : (l : LineData) (path : List Decision) (p : Timetable) (c k : ℕ) → IsLegal l p → MeetsPath l p path
    → IsMove l c k
    → low l path c k ≤ duration (motion l p c k)
low_least l path p c k legal meets move =
    least_bound (map duration (motions_below l path c k)) (duration (motion l p c k))
    (contains_map duration (motions_below l path c k) (motion l p c k) (motion_open l path p c k legal meets move))

pub high_greatest : (l : LineData) (path : List Decision) (p : Timetable) (c k : ℕ) → IsLegal l p → MeetsPath l p path
    → IsMove l c k
    → duration (motion l p c k) ≤ high l path c k
high_greatest l path p c k legal meets move =
    greatest_bound (map duration (motions_below l path c k)) (duration (motion l p c k))
    (contains_map duration (motions_below l path c k) (motion l p c k) (motion_open l path p c k legal meets move))

pub back_least : (l : LineData) (path : List Decision) (p : Timetable) (c k : ℕ) → IsLegal l p → MeetsPath l p path
    → IsMove l c k
    → back l path c k ≤ there_and_back (motion l p c k)
back_least l path p c k legal meets move =
    least_bound (map there_and_back (motions_below l path c k)) (there_and_back (motion l p c k))
    (contains_map there_and_back (motions_below l path c k) (motion l p c k) (motion_open l path p c k legal meets move))

-- where the path leaves one tank, it is the timetable's
pub tank_settled : (l : LineData) (path : List Decision) (p : Timetable) (c k t : ℕ) → IsLegal l p → MeetsPath l p path
    → IsVisit l c k
    → tank_below l path c k ≡ Some t → t ≡ p.tank c k
tank_settled l path p c k t legal meets visit e =
    let P : List ℕ → Type 0 = λ ts. Contains ts (p.tank c k) in
    contains_only t (p.tank c k) (subst P (tanks_are l path c k t e) (tank_open l path p c k legal meets visit))

tanks_motion : (l : LineData) (p : Timetable) (c k i j : ℕ) → i ≡ p.tank c k → j ≡ p.tank c (k + 1)
    → motion_between l k i j ≡ motion l p c k
tanks_motion l p c k i j e e' = ap (λ (x : ℕ). motion_between l k x j) e ∙ ap (λ (y : ℕ). motion_between l k (p.tank c k) y) e'

-- so is a settled motion
pub motion_settled : (l : LineData) (path : List Decision) (p : Timetable) (c k : ℕ) (m : Motion) → IsLegal l p
    → MeetsPath l p path → IsMove l c k
    → motion_below l path c k ≡ Some m → m ≡ motion l p c k
motion_settled l path p c k m legal meets move e =
    let r = settled_motion l path c k m e in
    r.is
    ∙ tanks_motion l p c k r.from r.to (tank_settled l path p c k r.from legal meets (visit_before l c k move) r.first)
    (tank_settled l path p c (k + 1) r.to legal meets (visit_after l c k move) r.second)

-- and its duration
pub low_settled : (l : LineData) (path : List Decision) (p : Timetable) (c k i j : ℕ) → IsLegal l p → MeetsPath l p path
    → IsMove l c k
    → tank_below l path c k ≡ Some i → tank_below l path c (k + 1) ≡ Some j → low l path c k ≡ duration (motion l p c k)
low_settled l path p c k i j legal meets move e e' =
    low_is l path c k i j e e'
    ∙ ap (λ (m : Motion). duration m)
    (tanks_motion l p c k i j (tank_settled l path p c k i legal meets (visit_before l c k move) e)
    (tank_settled l path p c (k + 1) j legal meets (visit_after l c k move) e'))
