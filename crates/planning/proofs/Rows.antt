-- What the undecided constraints of a path say of ticks, row by row, where the path settles tanks and hoists.
use Rattle.std.proofs.Common.{◌≡◌, ℕ, ◌+◌, ◌-◌, ◌<◌, ◌≤◌, List, refl, subst, ℤ, pos, negsuc, ◌+ℤ◌, ◌-ℤ◌, ◌*ℤ◌, neg_ℤ, ◌≤ℤ◌, arith, ◌==◌, Some, None}
use Rattle.std.specs.Prelude.{Option, IsSome, IfSome, unwrap_or}
use Rattle.std.proofs.lemmas.Bool.{eq-eqb, ne_eqb}
use Rattle.std.proofs.lemmas.Int.{ints}
use Rattle.hoist_base.specs.LineData.{LineData, stage, last_stage, last_step, move_number, IsMove}
use Rattle.hoist_base.specs.Valid.{IsLine}
use Rattle.line_model.specs.Motion.{duration}
use Rattle.line_model.specs.Timetable.{Timetable, motion}
use Rattle.longest_path.specs.declared.systems.Arc.{Arc}
use Rattle.choice_tree.specs.declared.question.Question.{Question}
use Rattle.choice_tree.specs.declared.question.Decision.{Decision}
use Rattle.choice_tree.specs.declared.constraint.Constraint.{Constraint}
use Rattle.choice_tree.specs.declared.constraint.Constraint.TheVariants.{Min, Max, Entry, Visit, Repeat}
use Rattle.path_constraints.specs.Tanks.{there_and_back, low, high, back}
use Rattle.path_constraints.specs.Constraints.{IsConstraint, IsOrder, arc_of, entry_arc, visit_arc, Keeps}
use Rattle.path_constraints.specs.Places.{IsUndecided}
use Rattle.path_constraints.specs.Questions.{Stands, Fails}
use Rattle.path_constraints.proofs.CoverTrackLemmas.{times_back}
use Rattle.path_constraints.proofs.CoverHoldLemmas.{if_true, if_false}
use Rattle.planning.proofs.Choices.{Settled, low_own, high_own, back_own}

-- the ticks keep every undecided constraint at the period, and leave no order open
pub record Timed (l : LineData) (path : List Decision) (ticks : ℕ → ℤ) (period : ℕ) : Type 0 where
  pub constraints : (t : Constraint) → IsUndecided t → IsConstraint l path t → Keeps ticks period (arc_of l path t)
  pub orders : (x : Question) → IsOrder x → Stands l path x → Fails l path ticks period x → ⊥

abbrev arc : ℕ → ℕ → ℤ → ℤ → Arc
arc from to w q = record { from = from; to = to; w = w; q = q }

less_one : (period : ℕ) → negsuc 0 *ℤ pos period ≡ neg_ℤ (pos period)
less_one period = omega (arith, ints, times_back (pos 1) period)

in_period : (t : ℕ → ℤ) (period from to : ℕ) (w : ℤ) → Keeps t period (arc from to w (pos 0)) → (t from +ℤ w) ≤ℤ t to
in_period t period from to w h = omega (arith, ints, h)

in_next : (t : ℕ → ℤ) (period from to : ℕ) (w : ℤ) → Keeps t period (arc from to w (negsuc 0))
    → (t from +ℤ w) ≤ℤ (t to +ℤ pos period)
in_next t period from to w h = omega (arith, ints, h, less_one period)

-- what holds of the step before the next one holds of this one
at_before : (P : ℕ → Type 0) (k : ℕ) → P (k + 1 - 1) → P k
at_before P k h = subst P (omega arith) h

-- ---- windows

pub least_row : (l : LineData) (path : List Decision) (p : Timetable) (ticks : ℕ → ℤ) (period c k : ℕ)
    → Settled l path p → Timed l path ticks period
    → IsMove l c (k + 1)
    → (ticks (move_number l c k) +ℤ pos (duration (motion l p c k) + (stage l (k + 1)).min)) ≤ℤ ticks (move_number l c (k + 1))
least_row l path p ticks period c k s t move =
    let is : IsConstraint l path (Min c (k + 1)) = (move.0, omega arith, omega (arith, move.1)) in
    let P : ℕ → Type 0 = λ j. (ticks (move_number l c j) +ℤ pos (low l path c j + (stage l (k + 1)).min)) ≤ℤ ticks (move_number l c (k + 1)) in
    let h =
    in_period ticks period (move_number l c (k + 1 - 1)) (move_number l c (k + 1)) (pos (low l path c (k + 1 - 1) + (stage l (k + 1)).min))
    (t.constraints (Min c (k + 1)) tt is) in
    let Q : ℕ → Type 0 = λ d. (ticks (move_number l c k) +ℤ pos (d + (stage l (k + 1)).min)) ≤ℤ ticks (move_number l c (k + 1)) in
    subst Q (low_own l path p c k s (move.0, omega (arith, move.1))) (at_before P k h)

bounded : (o : Option ℕ) (a b : ℤ) (d : ℕ) → (IsSome o → (a +ℤ neg_ℤ (pos (d + unwrap_or o 0))) ≤ℤ b)
    → IfSome o (λ m. a ≤ℤ (b +ℤ pos (d + m)))
bounded None a b d h = tt
bounded (Some m) a b d h = omega (arith, ints, h refl)

pub greatest_row : (l : LineData) (path : List Decision) (p : Timetable) (ticks : ℕ → ℤ) (period c k : ℕ)
    → Settled l path p → Timed l path ticks period
    → IsMove l c (k + 1)
    → IfSome (stage l (k + 1)).max (λ m. ticks (move_number l c (k + 1)) ≤ℤ (ticks (move_number l c k) +ℤ pos (duration (motion l p c k) + m)))
greatest_row l path p ticks period c k s t move =
    bounded (stage l (k + 1)).max (ticks (move_number l c (k + 1))) (ticks (move_number l c k)) (duration (motion l p c k))
    (λ some.
    let is : IsConstraint l path (Max c (k + 1)) = (move.0, omega arith, omega (arith, move.1), some) in
    let most : ℕ = unwrap_or (stage l (k + 1)).max 0 in
    let P : ℕ → Type 0 = λ j. (ticks (move_number l c (k + 1)) +ℤ neg_ℤ (pos (high l path c j + most))) ≤ℤ ticks (move_number l c j) in
    let h =
    in_period ticks period (move_number l c (k + 1)) (move_number l c (k + 1 - 1)) (neg_ℤ (pos (high l path c (k + 1 - 1) + most)))
    (t.constraints (Max c (k + 1)) tt is) in
    let Q : ℕ → Type 0 = λ d. (ticks (move_number l c (k + 1)) +ℤ neg_ℤ (pos (d + most))) ≤ℤ ticks (move_number l c k) in
    subst Q (high_own l path p c k s (move.0, omega (arith, move.1))) (at_before P k h))

-- ---- entry

pub entry_row : (l : LineData) (path : List Decision) (ticks : ℕ → ℤ) (period c : ℕ) → Timed l path ticks period
    → c + 1 < l.degree
    → (ticks (move_number l c 0) +ℤ pos (l.load + (stage l 0).lift)) ≤ℤ ticks (move_number l (c + 1) 0)
entry_row l path ticks period c t lt =
    let w : ℤ = pos (l.load + (stage l 0).lift) in
    let around : Arc = arc (move_number l c 0) 0 w (negsuc 0) in
    let on : Arc = arc (move_number l c 0) (move_number l (c + 1) 0) w (pos 0) in
    let e : entry_arc l c ≡ on = if_false (c + 1 == l.degree) around on (ne_eqb (c + 1) l.degree (λ e. omega (arith, e, lt))) in
    let K : Arc → Type 0 = λ a. Keeps ticks period a in
    in_period ticks period (move_number l c 0) (move_number l (c + 1) 0) w (subst K e (t.constraints (Entry c) tt (omega (arith, lt))))

pub around_row : (l : LineData) (path : List Decision) (ticks : ℕ → ℤ) (period c : ℕ) → Timed l path ticks period
    → c + 1 ≡ l.degree
    → (ticks (move_number l c 0) +ℤ pos (l.load + (stage l 0).lift)) ≤ℤ (ticks 0 +ℤ pos period)
around_row l path ticks period c t last =
    let w : ℤ = pos (l.load + (stage l 0).lift) in
    let around : Arc = arc (move_number l c 0) 0 w (negsuc 0) in
    let on : Arc = arc (move_number l c 0) (move_number l (c + 1) 0) w (pos 0) in
    let e : entry_arc l c ≡ around = if_true (c + 1 == l.degree) around on (eq-eqb (c + 1) l.degree last) in
    let K : Arc → Type 0 = λ a. Keeps ticks period a in
    in_next ticks period (move_number l c 0) 0 w (subst K e (t.constraints (Entry c) tt (omega (arith, last))))

-- ---- visits

pub visit_row : (l : LineData) (path : List Decision) (p : Timetable) (ticks : ℕ → ℤ) (period c k : ℕ)
    → Settled l path p → Timed l path ticks period
    → IsMove l c (k + 1)
    → (ticks (move_number l c (k + 1)) +ℤ pos ((stage l (k + 1)).lift + (stage l (k + 1)).lower)) ≤ℤ
    (ticks (move_number l c k) +ℤ pos (duration (motion l p c k) + period))
visit_row l path p ticks period c k s t move =
    let is : IsConstraint l path (Visit c (k + 1)) = (move.0, omega arith, omega (arith, move.1)) in
    let times : ℕ = (stage l (k + 1)).lift + (stage l (k + 1)).lower in
    let at_end : Arc = arc (move_number l c (last_step l)) (move_number l c (last_step l)) (pos ((stage l (k + 1)).lower + l.unload)) (negsuc 0) in
    let inner : Arc = arc (move_number l c (k + 1)) (move_number l c (k + 1 - 1)) (pos times -ℤ pos (high l path c (k + 1 - 1))) (negsuc 0) in
    let e : visit_arc l path c (k + 1) ≡ inner =
    if_false (k + 1 == last_stage l) at_end inner (ne_eqb (k + 1) (last_stage l) (λ x. omega (arith, x, move.1))) in
    let K : Arc → Type 0 = λ a. Keeps ticks period a in
    let h =
    in_next ticks period (move_number l c (k + 1)) (move_number l c (k + 1 - 1)) (pos times -ℤ pos (high l path c (k + 1 - 1)))
    (subst K e (t.constraints (Visit c (k + 1)) tt is)) in
    let P : ℕ → Type 0 = λ j. (ticks (move_number l c (k + 1)) +ℤ (pos times -ℤ pos (high l path c j))) ≤ℤ (ticks (move_number l c j) +ℤ pos period) in
    let Q : ℕ → Type 0 = λ d. (ticks (move_number l c (k + 1)) +ℤ (pos times -ℤ pos d)) ≤ℤ (ticks (move_number l c k) +ℤ pos period) in
    cleared (ticks (move_number l c (k + 1))) (ticks (move_number l c k)) times (duration (motion l p c k)) period
    (subst Q (high_own l path p c k s (move.0, omega (arith, move.1))) (at_before P k h))
  where
    cleared : (a b : ℤ) (n d period : ℕ) → (a +ℤ (pos n -ℤ pos d)) ≤ℤ (b +ℤ pos period)
        → (a +ℤ pos n) ≤ℤ (b +ℤ pos (d + period))
    cleared a b n d period h = omega (arith, ints, h)

pub last_row : (l : LineData) (path : List Decision) (ticks : ℕ → ℤ) (period : ℕ) → IsLine l → Timed l path ticks period
    → (stage l (last_stage l)).lower + l.unload ≤ period
last_row l path ticks period line t =
    let n : ℕ = last_stage l in
    let is : IsConstraint l path (Visit 0 n) = (omega (arith, line.limits.degree.0), omega (arith, line.limits.stages.0), omega arith) in
    let w : ℤ = pos ((stage l n).lower + l.unload) in
    let i : ℕ = move_number l 0 (last_step l) in
    let at_end : Arc = arc i i w (negsuc 0) in
    let inner : Arc =
    arc (move_number l 0 n) (move_number l 0 (n - 1)) (pos ((stage l n).lift + (stage l n).lower) -ℤ pos (high l path 0 (n - 1))) (negsuc 0) in
    let e : visit_arc l path 0 n ≡ at_end = if_true (n == last_stage l) at_end inner (eq-eqb n (last_stage l) refl) in
    let K : Arc → Type 0 = λ a. Keeps ticks period a in
    within (ticks i) ((stage l n).lower + l.unload) period (in_next ticks period i i w (subst K e (t.constraints (Visit 0 n) tt is)))
  where
    within : (a : ℤ) (n period : ℕ) → (a +ℤ pos n) ≤ℤ (a +ℤ pos period) → n ≤ period
    within a n period h = omega (arith, ints, h)

-- ---- repeat

pub repeat_row : (l : LineData) (path : List Decision) (p : Timetable) (ticks : ℕ → ℤ) (period c k : ℕ)
    → Settled l path p → Timed l path ticks period
    → IsMove l c k → there_and_back (motion l p c k) ≤ period
repeat_row l path p ticks period c k s t move =
    let is : IsConstraint l path (Repeat c k) = (move.0, omega (arith, move.1)) in
    let i : ℕ = move_number l c k in
    let h = in_next ticks period i i (pos (back l path c k)) (t.constraints (Repeat c k) tt is) in
    let Q : ℕ → Type 0 = λ d. (ticks i +ℤ pos d) ≤ℤ (ticks i +ℤ pos period) in
    within (ticks i) (there_and_back (motion l p c k)) period (subst Q (back_own l path p c k s move) h)
  where
    within : (a : ℤ) (n period : ℕ) → (a +ℤ pos n) ≤ℤ (a +ℤ pos period) → n ≤ period
    within a n period h = omega (arith, ints, h)
