-- No question comes twice on a path.
use Rattle.std.proofs.Common.{⊎_elim, ◌≡◌, ℕ, zero, suc, ◌<◌, List, [], ◌∷◌, length, Bool, true, cond, refl, sym, ◌∙◌, ap, subst, arith, take, ℤ, pos, eq-eqb, ◌&&◌, Some, None}
use Rattle.std.specs.Prelude.{Option, IsSomeAnd, ◌<ℤ◌, ◌≤ℤ◌, ◌+ℤ◌, ◌-ℤ◌, neg_ℤ, ◌==◌, ◌*ℤ◌}
use Rattle.std.specs.Option.{option_or}
use Rattle.std.proofs.lemmas.Bool.{cases_eq, ne_eqb}
use Rattle.std.proofs.lemmas.Int.{ints}
use Rattle.hoist_base.specs.LineData.{LineData, move_number}
use Rattle.hoist_base.specs.declared.ids.MoveId.{MoveId}
use Rattle.hoist_base.specs.declared.ids.VisitId.{VisitId}
use Rattle.hoist_base.proofs.Firsts.{or_right}
use Rattle.collision_pairs.specs.declared.span.Span.{Span}
use Rattle.longest_path.specs.declared.systems.Arc.{Arc}
use Rattle.choice_tree.specs.declared.question.Question.{Question}
use Rattle.choice_tree.specs.declared.question.Question.TheVariants.{Assign, TankOrder, HoistOrder, Choose}
use Rattle.choice_tree.specs.declared.question.Decision.{Decision}
use Rattle.choice_tree.specs.declared.constraint.Constraint.TheVariants.{Decided}
use Rattle.path_constraints.specs.Tanks.{decision_at, choice_by, choice_of, low}
use Rattle.path_constraints.specs.Hoists.{assigned_by, assigned_of, clash_below}
use Rattle.path_constraints.specs.Holds.{begin_of, end_of}
use Rattle.path_constraints.specs.Constraints.{IsOrder, Keeps, moment_arc, tank_arc, span_arc, decided_arc}
use Rattle.path_constraints.specs.Questions.{FitsPath, HoldTogether, offset_of, child_count}
use Rattle.path_constraints.specs.Ticks.{tick_at}
use Rattle.path_constraints.proofs.SpreadLemmas.{KeepsAll, keeps_all}
use Rattle.path_constraints.proofs.CoverTrackLemmas.{times_back}
use Rattle.enough_budget.specs.Asked.{IsAskedPath}
use Rattle.enough_budget.specs.Laws.{NeverAgain}

pub asked_fits : (l : LineData) (path : List Decision) → IsAskedPath l path → FitsPath l path
asked_fits l path h i lt = record { question = (h i lt).asked.first.0; child = (h i lt).child }

-- ---- tanks and hoists

same_two : (m n : ℕ) → ((m == m) && (n == n)) ≡ true
same_two m n = ap (λ (b : Bool). b && (n == n)) (eq-eqb m m refl) ∙ eq-eqb n n refl

some_none : (o o' : Option ℕ) (n : ℕ) → o ≡ Some n → option_or o o' ≡ None → ⊥
some_none None o' n e none = cc
some_none (Some m) o' n e none = cc

not_chosen : (path : List Decision) (v : VisitId) (i : ℕ) → i < length path → (decision_at path i).question ≡ Choose v
    → choice_of path v.carrier v.stage ≡ None → ⊥
not_chosen [] v i lt e none = omega (arith, lt)
not_chosen (d ∷ ds) v zero lt e none =
    let P : Question → Type 0 = λ q. choice_by v.carrier v.stage q d.child ≡ Some d.child in
    let made : choice_by v.carrier v.stage (Choose v) d.child ≡ Some d.child =
    ap (λ (b : Bool). cond b (Some d.child) None) (same_two v.carrier v.stage) in
    some_none (choice_by v.carrier v.stage d.question d.child) (choice_of ds v.carrier v.stage) d.child (subst P (sym e) made) none
not_chosen (d ∷ ds) v (suc i) lt e none =
    not_chosen ds v i (omega (arith, lt)) e
    (or_right (choice_by v.carrier v.stage d.question d.child) (choice_of ds v.carrier v.stage) none)

not_assigned : (path : List Decision) (m : MoveId) (i : ℕ) → i < length path → (decision_at path i).question ≡ Assign m
    → assigned_of path m.carrier m.step ≡ None → ⊥
not_assigned [] m i lt e none = omega (arith, lt)
not_assigned (d ∷ ds) m zero lt e none =
    let P : Question → Type 0 = λ q. assigned_by m.carrier m.step q d.child ≡ Some d.child in
    let made : assigned_by m.carrier m.step (Assign m) d.child ≡ Some d.child =
    ap (λ (b : Bool). cond b (Some d.child) None) (same_two m.carrier m.step) in
    some_none (assigned_by m.carrier m.step d.question d.child) (assigned_of ds m.carrier m.step) d.child (subst P (sym e) made) none
not_assigned (d ∷ ds) m (suc i) lt e none =
    not_assigned ds m i (omega (arith, lt)) e
    (or_right (assigned_by m.carrier m.step d.question d.child) (assigned_of ds m.carrier m.step) none)

-- ---- orders

-- y is late enough after x, so that it isn't too early
late_enough : (x y e b ahead back : ℤ) → back ≡ neg_ℤ ahead → (x +ℤ ((e -ℤ b) +ℤ back)) ≤ℤ y
    → ((y +ℤ b) +ℤ ahead) <ℤ (x +ℤ e) → ⊥
late_enough x y e b ahead back is keeps early = omega (arith, ints, is, keeps, early)

-- the same where x comes later
turned : (x y e b ahead on : ℤ) → on ≡ ahead → (x +ℤ ((e -ℤ b) +ℤ on)) ≤ℤ y → (y +ℤ b) <ℤ ((x +ℤ e) +ℤ ahead) → ⊥
turned x y e b ahead on is keeps late = omega (arith, ints, is, keeps, late)

-- ticks that keep a decided order of visits don't leave it open
tanks_kept : (l : LineData) (path : List Decision) (s : ℕ → ℤ) (period : ℕ) (a b : VisitId) (q : ℤ) (child : ℕ)
    → child < 2
    → Keeps s period (tank_arc l path a b q child) → HoldTogether l (low l path) s period a b q → ⊥
tanks_kept l path s period a b q child few keeps fails =
    let first = moment_arc l (end_of l (low l path) a.carrier a.stage) (begin_of l (low l path) b.carrier b.stage) q in
    let second = moment_arc l (end_of l (low l path) b.carrier b.stage) (begin_of l (low l path) a.carrier a.stage) (neg_ℤ q) in
    let P : Arc → Type 0 = λ x. Keeps s period x in
    ⊎_elim
    (λ e.
    let is : tank_arc l path a b q child ≡ first = ap (λ (t : Bool). cond t first second) (eq-eqb child 0 e) in
    late_enough _ _ _ _ (q *ℤ pos period) (neg_ℤ q *ℤ pos period) (times_back q period) (subst P is keeps) fails.0)
    (λ ne.
    let is : tank_arc l path a b q child ≡ second = ap (λ (t : Bool). cond t first second) (ne_eqb child 0 ne) in
    let back : neg_ℤ (neg_ℤ q) *ℤ pos period ≡ q *ℤ pos period = omega (arith, ints, times_back (neg_ℤ q) period, times_back q period) in
    turned _ _ _ _ (q *ℤ pos period) (neg_ℤ (neg_ℤ q) *ℤ pos period) back (subst P is keeps) fails.1)
    (cases_eq child 0)

not_before : (x y after ahead back : ℤ) → back ≡ neg_ℤ ahead → (x +ℤ (after +ℤ back)) ≤ℤ y
    → ((y +ℤ ahead) -ℤ x) <ℤ after → ⊥
not_before x y after ahead back is keeps early = omega (arith, ints, is, keeps, early)

not_after : (x y before ahead : ℤ) → (y +ℤ (before +ℤ ahead)) ≤ℤ x → neg_ℤ before <ℤ ((y +ℤ ahead) -ℤ x) → ⊥
not_after x y before ahead keeps late = omega (arith, ints, keeps, late)

-- nor do they leave a decided order of moves open
spans_kept : (l : LineData) (s : ℕ → ℤ) (period : ℕ) (a b : MoveId) (q : ℤ) (child : ℕ) (o : Option Span) → child < 2
    → Keeps s period (span_arc l a b q child o)
    → IsSomeAnd o (λ span. (neg_ℤ span.before <ℤ offset_of l s period a b q) × (offset_of l s period a b q <ℤ span.after))
    → ⊥
spans_kept l s period a b q child None few keeps fails = absurd fails
spans_kept l s period a b q child (Some span) few keeps fails =
    let first : Arc =
    record { from = move_number l a.carrier a.step; to = move_number l b.carrier b.step; w = span.after; q = neg_ℤ q } in
    let second : Arc = record { from = move_number l b.carrier b.step; to = move_number l a.carrier a.step; w = span.before; q = q } in
    let P : Arc → Type 0 = λ x. Keeps s period x in
    ⊎_elim
    (λ e.
    let is : span_arc l a b q child (Some span) ≡ first = ap (λ (t : Bool). cond t first second) (eq-eqb child 0 e) in
    not_before _ _ span.after (q *ℤ pos period) (neg_ℤ q *ℤ pos period) (times_back q period) (subst P is keeps) fails.1)
    (λ ne.
    let is : span_arc l a b q child (Some span) ≡ second = ap (λ (t : Bool). cond t first second) (ne_eqb child 0 ne) in
    not_after _ _ span.before (q *ℤ pos period) (subst P is keeps) fails.0)
    (cases_eq child 0)

-- what the ticks keep of decision i
decided_kept : (l : LineData) (path : List Decision) (s : ℕ → ℤ) (period i : ℕ) (question : Question)
    → KeepsAll l path s period → i < length path
    → (decision_at path i).question ≡ question → IsOrder question
    → Keeps s period (decided_arc l path question (decision_at path i).child)
decided_kept l path s period i question keeps lt e order =
    let P : Question → Type 0 = λ x. IsOrder x in
    let K : Question → Type 0 = λ x. Keeps s period (decided_arc l path x (decision_at path i).child) in
    subst K e (keeps (Decided i) (lt, subst P (sym e) order))

-- an order has two children
two_children : (l : LineData) (path : List Decision) (i : ℕ) (question : Question) → IsAskedPath l path
    → i < length path
    → (decision_at path i).question ≡ question → ((ds : List Decision) → child_count l ds question ≡ 2)
    → (decision_at path i).child < 2
two_children l path i question h lt e two =
    let P : Question → Type 0 = λ x. (decision_at path i).child < child_count l (take i path) x in
    omega (arith, subst P e (h i lt).child, two (take i path))

pub never_again : NeverAgain
never_again l path (Choose v) i line h asked lt e = not_chosen path v i lt e asked.first.0.stands.open_yet
never_again l path (Assign m) i line h asked lt e = not_assigned path m i lt e asked.first.0.stands.open_yet
never_again l path (TankOrder a b q) i line h asked lt e =
    let keeps = keeps_all l path (tick_at asked.ticks) asked.period line asked.solution.solves in
    let kept = decided_kept l path (tick_at asked.ticks) asked.period i (TankOrder a b q) keeps lt e tt in
    tanks_kept l path (tick_at asked.ticks) asked.period a b q (decision_at path i).child
    (two_children l path i (TankOrder a b q) h lt e (λ ds. refl)) kept asked.first.1
never_again l path (HoistOrder a b q) i line h asked lt e =
    let keeps = keeps_all l path (tick_at asked.ticks) asked.period line asked.solution.solves in
    let kept = decided_kept l path (tick_at asked.ticks) asked.period i (HoistOrder a b q) keeps lt e tt in
    spans_kept l (tick_at asked.ticks) asked.period a b q (decision_at path i).child (clash_below l path a b)
    (two_children l path i (HoistOrder a b q) h lt e (λ ds. refl)) kept asked.first.1
