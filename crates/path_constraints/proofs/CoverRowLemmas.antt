-- Each legal timetable that meets the decisions of a path keeps the undecided constraints, row by row.
use Rattle.std.proofs.Common.{⊎_elim, ◌≡◌, ℕ, ◌+◌, ◌-◌, ◌*◌, ◌<◌, ◌≤◌, List, [], ◌∷◌, length, refl, sym, ◌∙◌, ap, subst, ℤ, pos, negsuc, ◌+ℤ◌, ◌-ℤ◌, ◌*ℤ◌, neg_ℤ, ◌<ℤ◌, ◌≤ℤ◌, arith, ◌==◌, Some, None}
use Rattle.std.specs.Prelude.{Option, Contains, IsSome, IfSome, unwrap_or}
use Rattle.std.specs.Int.{abs_diff}
use Rattle.std.proofs.lemmas.Bool.{cases_lt, cases_eq, eq-eqb, ne_eqb}
use Rattle.std.proofs.lemmas.Int.{ints}
use Rattle.hoist_base.specs.LineData.{LineData, stage, last_stage, last_step, move_number, IsMove, IsVisit}
use Rattle.hoist_base.specs.Valid.{IsLine}
use Rattle.line_model.specs.Motion.{duration}
use Rattle.line_model.specs.Timetable.{Timetable, position, later, motion}
use Rattle.line_model.specs.Legal.{IsLegal, hold_begin, hold_end}
use Rattle.longest_path.specs.declared.systems.Arc.{Arc}
use Rattle.choice_tree.specs.declared.question.Decision.{Decision}
use Rattle.collision_pairs.proofs.MotionLemmas.{at_start, at_end}
use Rattle.path_constraints.specs.Tanks.{low, high, back, there_and_back}
use Rattle.path_constraints.specs.Constraints.{min_arc, max_arc, entry_arc, visit_arc, repeat_arc, Keeps}
use Rattle.path_constraints.specs.Meets.{ticks_of, MeetsPath}
use Rattle.list_facts.proofs.Elements.{contains_only}
use Rattle.path_constraints.proofs.CoverTankLemmas.{low_least, high_greatest, back_least}
use Rattle.path_constraints.proofs.CoverTrackLemmas.{times_back, speed, on_move}
use Rattle.path_constraints.proofs.CoverHoldLemmas.{tick_is, if_true, if_false, begin_tick, end_tick, length_of, Begins, AtLoad, AfterMove, Ends, ByMove, AtUnload, begins, ends, spans_ticks, dwells, holds_apart, ticks_apart}

-- ---- from starts to constraints

abbrev pub arc : ℕ → ℕ → ℤ → ℤ → Arc
arc from to w q = record { from = from; to = to; w = w; q = q }

less_one : (period : ℕ) → negsuc 0 *ℤ pos period ≡ neg_ℤ (pos period)
less_one period = omega (arith, ints, times_back (pos 1) period)

keeps_same : (t : ℕ → ℤ) (period from to : ℕ) (w s s' : ℤ) → t from ≡ s → t to ≡ s' → (s +ℤ w) ≤ℤ s'
    → Keeps t period (arc from to w (pos 0))
keeps_same t period from to w s s' e f h = omega (arith, ints)

keeps_next : (t : ℕ → ℤ) (period from to : ℕ) (w s s' : ℤ) → t from ≡ s → t to ≡ s' → (s +ℤ w) ≤ℤ (s' +ℤ pos period)
    → Keeps t period (arc from to w (negsuc 0))
keeps_next t period from to w s s' e f h = omega (arith, ints, less_one period)

is_move : (l : LineData) (c k : ℕ) → IsLine l → c < l.degree → k ≤ last_step l → IsMove l c k
is_move l c k line carrier step = (carrier, omega (arith, step, line.limits.stages.0))

move_before : (l : LineData) (c k : ℕ) → IsLine l → c < l.degree → 1 ≤ k → k ≤ last_stage l → IsMove l c (k - 1)
move_before l c k line carrier from to = (carrier, omega (arith, from, to, line.limits.stages.0))

-- ---- windows

pub min_row : (l : LineData) (path : List Decision) (p : Timetable) (c k : ℕ) → IsLine l → IsLegal l p
    → MeetsPath l p path → c < l.degree → 1 ≤ k
    → k ≤ last_step l → Keeps (ticks_of l p) p.period (min_arc l path c k)
min_row l path p c k line legal meets carrier from to =
    let before = move_before l c k line carrier from (omega (arith, to)) in
    let here = is_move l c k line carrier to in
    keeps_same (ticks_of l p) p.period (move_number l c (k - 1)) (move_number l c k) (pos (low l path c (k - 1) + (stage l k).min)) (pos (p.start c (k - 1)))
    (pos (p.start c k))
    (tick_is l p c (k - 1) (omega (arith, before.1))) (tick_is l p c k (omega (arith, here.1)))
    (long_enough (p.start c (k - 1)) (length_of l p c (k - 1)) (low l path c (k - 1)) (stage l k).min (p.start c k)
    (dwells l p c k legal (omega (arith, from)) here) (low_least l path p c (k - 1) legal meets before))
  where
    long_enough : (s d lo least s' : ℕ) → s + d + least ≤ s' → lo ≤ d → (pos s +ℤ pos (lo + least)) ≤ℤ pos s'
    long_enough s d lo least s' h le = omega (arith, ints)

some_bound : (o : Option ℕ) (a b : ℕ) → IsSome o → IfSome o (λ m. a ≤ b + m) → a ≤ b + unwrap_or o 0
some_bound None a b some h = cc
some_bound (Some m) a b some h = h

pub max_row : (l : LineData) (path : List Decision) (p : Timetable) (c k : ℕ) → IsLine l → IsLegal l p
    → MeetsPath l p path → c < l.degree → 1 ≤ k
    → k ≤ last_step l → IsSome (stage l k).max → Keeps (ticks_of l p) p.period (max_arc l path c k)
max_row l path p c k line legal meets carrier from to some =
    let before = move_before l c k line carrier from (omega (arith, to)) in
    let here = is_move l c k line carrier to in
    let e : k - 1 + 1 ≡ k = omega (arith, from) in
    let P : ℕ → Type 0 = λ j. IfSome (stage l j).max (λ m. p.start c j ≤ p.start c (k - 1) + length_of l p c (k - 1) + m) in
    let window : P k = subst P e (legal.windows.greatest c (k - 1) (carrier, omega (arith, here.1, from))) in
    let bound = some_bound (stage l k).max (p.start c k) (p.start c (k - 1) + length_of l p c (k - 1)) some window in
    keeps_same (ticks_of l p) p.period (move_number l c k) (move_number l c (k - 1)) (neg_ℤ (pos (high l path c (k - 1) + unwrap_or (stage l k).max 0)))
    (pos (p.start c k)) (pos (p.start c (k - 1)))
    (tick_is l p c k (omega (arith, here.1))) (tick_is l p c (k - 1) (omega (arith, before.1)))
    (short_enough (p.start c (k - 1)) (length_of l p c (k - 1)) (high l path c (k - 1)) (unwrap_or (stage l k).max 0) (p.start c k) bound
    (high_greatest l path p c (k - 1) legal meets before))
  where
    short_enough : (s d hi most s' : ℕ) → s' ≤ s + d + most → d ≤ hi → (pos s' +ℤ neg_ℤ (pos (hi + most))) ≤ℤ pos s
    short_enough s d hi most s' h le = omega (arith, ints)

-- ---- entry

only_one : (xs : List ℕ) (x y : ℕ) → length xs ≡ 1 → Contains xs x → Contains xs y → x ≡ y
only_one [] x y e c d = absurd (omega (arith, e))
only_one (a ∷ []) x y e c d = sym (contains_only a x c) ∙ contains_only a y d
only_one (a ∷ b ∷ xs) x y e c d = absurd (omega (arith, e))

first_visit : (l : LineData) (c : ℕ) → IsLine l → c < l.degree → IsVisit l c 0
first_visit l c line carrier = (carrier, omega (arith, line.limits.stages.0))

one_load : (l : LineData) (p : Timetable) (c c' : ℕ) → IsLine l → IsLegal l p → c < l.degree → c' < l.degree
    → p.tank c 0 ≡ p.tank c' 0
one_load l p c c' line legal carrier carrier' =
    only_one (stage l 0).tanks (p.tank c 0) (p.tank c' 0) line.times.first.one_tank
    (legal.routed c 0 (first_visit l c line carrier)) (legal.routed c' 0 (first_visit l c' line carrier'))

first_begin : (l : LineData) (p : Timetable) (c : ℕ) → hold_begin l p c 0 ≡ p.put c
first_begin l p c = if_true (0 == 0) (p.put c) (p.start c (0 - 1) + length_of l p c (0 - 1) - (stage l 0).lower) (eq-eqb 0 0 refl)

first_end : (l : LineData) (p : Timetable) (c : ℕ) → IsLine l → hold_end l p c 0 ≡ p.start c 0 + (stage l 0).lift
first_end l p c line = if_false (0 == last_stage l) (p.off c) (p.start c 0 + (stage l 0).lift)
    (ne_eqb 0 (last_stage l) (λ e. omega (arith, e, line.limits.stages.0)))

-- the next carrier is put on when this one has been lifted
enters : (put start lift load put' start' ahead : ℕ) → put < put' + ahead → put' + load ≤ start'
    → start + lift ≤ put' + ahead
    → start + (load + lift) ≤ start' + ahead
enters put start lift load put' start' ahead order loaded apart = omega arith

enters_not : (put put' start' lift load ahead : ℕ) → put < put' + ahead → put' + load ≤ start'
    → start' + lift + ahead ≤ put → ⊥
enters_not put put' start' lift load ahead order loaded apart = omega arith

pub entry_before : (l : LineData) (p : Timetable) (c : ℕ) → IsLine l → IsLegal l p → c + 1 < l.degree
    → p.start c 0 + (l.load + (stage l 0).lift) ≤ p.start (c + 1) 0
entry_before l p c line legal lt =
    let order = legal.numbered.rising c lt in
    let loaded = legal.windows.load (c + 1) lt in
    let here : c < l.degree = omega (arith, lt) in
    ⊎_elim
    (λ le.
    let apart : p.start c 0 + (stage l 0).lift ≤ p.put (c + 1) + 0 = ended (hold_end l p c 0) (hold_begin l p (c + 1) 0) (p.start c 0 + (stage l 0).lift)
    (p.put (c + 1)) p.period (first_end l p c line) (first_begin l p (c + 1)) le in
    omega (arith, enters (p.put c) (p.start c 0) (stage l 0).lift l.load (p.put (c + 1)) (p.start (c + 1) 0) 0 (omega (arith, order)) loaded apart))
    (λ le.
    let apart : p.start (c + 1) 0 + (stage l 0).lift + 0 ≤ p.put c = began (hold_end l p (c + 1) 0) (hold_begin l p c 0) (p.start (c + 1) 0 + (stage l 0).lift)
    (p.put c) p.period (first_end l p (c + 1) line) (first_begin l p c) le in
    absurd (enters_not (p.put c) (p.put (c + 1)) (p.start (c + 1) 0) (stage l 0).lift l.load 0 (omega (arith, order)) loaded apart))
    (holds_apart l p c 0 (c + 1) 0 (pos 0) line legal (first_visit l c line here) (first_visit l (c + 1) line lt) (one_load l p c (c + 1) line legal here lt)
    (λ d. omega (arith, d.0)))
  where
    ended : (he hb e b period : ℕ) → he ≡ e → hb ≡ b → pos he ≤ℤ (pos hb +ℤ pos 0 *ℤ pos period) → e ≤ b + 0
    ended he hb e b period f g le = omega (arith, ints)

    began : (he hb e b period : ℕ) → he ≡ e → hb ≡ b → (pos he +ℤ pos 0 *ℤ pos period) ≤ℤ pos hb → e + 0 ≤ b
    began he hb e b period f g le = omega (arith, ints)

pub entry_around : (l : LineData) (p : Timetable) (c : ℕ) → IsLine l → IsLegal l p → c + 1 ≡ l.degree
    → p.start c 0 + (l.load + (stage l 0).lift) ≤ p.start 0 0 + p.period
entry_around l p c line legal last =
    let last_is : l.degree - 1 ≡ c = omega (arith, last) in
    let P : ℕ → Type 0 = λ j. p.put j < p.put 0 + p.period in
    let order : p.put c < p.put 0 + p.period = subst P last_is legal.numbered.around in
    let here : c < l.degree = omega (arith, last) in
    let first : 0 < l.degree = omega (arith, last) in
    let loaded = legal.windows.load 0 first in
    ⊎_elim
    (λ le.
    let apart : p.start c 0 + (stage l 0).lift ≤ p.put 0 + p.period = ended (hold_end l p c 0) (hold_begin l p 0 0) (p.start c 0 + (stage l 0).lift) (p.put 0)
    p.period (first_end l p c line) (first_begin l p 0) le in
    enters (p.put c) (p.start c 0) (stage l 0).lift l.load (p.put 0) (p.start 0 0) p.period order loaded apart)
    (λ le.
    let apart : p.start 0 0 + (stage l 0).lift + p.period ≤ p.put c = began (hold_end l p 0 0) (hold_begin l p c 0) (p.start 0 0 + (stage l 0).lift) (p.put c)
    p.period (first_end l p 0 line) (first_begin l p c) le in
    absurd (enters_not (p.put c) (p.put 0) (p.start 0 0) (stage l 0).lift l.load p.period order loaded apart))
    (holds_apart l p c 0 0 0 (pos 1) line legal (first_visit l c line here) (first_visit l 0 line first) (one_load l p c 0 line legal here first)
    (λ d. let e : pos 1 ≡ pos 0 = d.2 in cc))
  where
    ended : (he hb e b period : ℕ) → he ≡ e → hb ≡ b → pos he ≤ℤ (pos hb +ℤ pos 1 *ℤ pos period) → e ≤ b + period
    ended he hb e b period f g le = omega (arith, ints)

    began : (he hb e b period : ℕ) → he ≡ e → hb ≡ b → (pos he +ℤ pos 1 *ℤ pos period) ≤ℤ pos hb → e + period ≤ b
    began he hb e b period f g le = omega (arith, ints)

pub entry_row : (l : LineData) (p : Timetable) (c : ℕ) → IsLine l → IsLegal l p → c < l.degree
    → Keeps (ticks_of l p) p.period (entry_arc l c)
entry_row l p c line legal carrier =
    let stages : 2 ≤ length l.stages = line.limits.stages.0 in
    let w : ℤ = pos (l.load + (stage l 0).lift) in
    let K : Arc → Type 0 = λ a. Keeps (ticks_of l p) p.period a in
    let from : ticks_of l p (move_number l c 0) ≡ pos (p.start c 0) = tick_is l p c 0 (omega (arith, stages)) in
    let around : Arc = arc (move_number l c 0) 0 w (negsuc 0) in
    let on : Arc = arc (move_number l c 0) (move_number l (c + 1) 0) w (pos 0) in
    ⊎_elim
    (λ last.
    let e : entry_arc l c ≡ around = if_true (c + 1 == l.degree) around on (eq-eqb (c + 1) l.degree last) in
    let zero_is : 0 ≡ move_number l 0 0 = omega arith in
    let to : ticks_of l p 0 ≡ pos (p.start 0 0) = ap (λ (i : ℕ). ticks_of l p i) zero_is ∙ tick_is l p 0 0 (omega (arith, stages)) in
    subst K (sym e) (keeps_next (ticks_of l p) p.period (move_number l c 0) 0 w (pos (p.start c 0)) (pos (p.start 0 0)) from to
    (omega (arith, ints, entry_around l p c line legal last))))
    (λ other.
    let e : entry_arc l c ≡ on = if_false (c + 1 == l.degree) around on (ne_eqb (c + 1) l.degree other) in
    subst K (sym e) (keeps_same (ticks_of l p) p.period (move_number l c 0) (move_number l (c + 1) 0) w (pos (p.start c 0)) (pos (p.start (c + 1) 0)) from
    (tick_is l p (c + 1) 0 (omega (arith, stages)))
    (omega (arith, ints, entry_before l p c line legal (omega (arith, carrier, other))))))
    (cases_eq (c + 1) l.degree)

-- ---- visit

-- a visit has ended when the same visit of the next period begins
pub visit_again : (l : LineData) (p : Timetable) (c k : ℕ) → IsLine l → IsLegal l p → IsVisit l c k
    → end_tick l p c k ≤ℤ (begin_tick l p c k +ℤ pos p.period)
visit_again l p c k line legal visit =
    ⊎_elim
    (λ le. later_is (end_tick l p c k) (begin_tick l p c k) p.period le)
    (λ le. absurd (never (end_tick l p c k) (begin_tick l p c k) p.period le (spans_ticks l p c k line legal visit).some))
    (ticks_apart l p c k c k (pos 1) line legal visit visit refl (λ d. let e : pos 1 ≡ pos 0 = d.2 in cc))
  where
    later_is : (e b : ℤ) (period : ℕ) → e ≤ℤ (b +ℤ pos 1 *ℤ pos period) → e ≤ℤ (b +ℤ pos period)
    later_is e b period le = omega (arith, ints)

    never : (e b : ℤ) (period : ℕ) → (e +ℤ pos 1 *ℤ pos period) ≤ℤ b → b <ℤ e → ⊥
    never e b period le lt = omega (arith, ints)

visit_by : (l : LineData) (path : List Decision) (p : Timetable) (c k : ℕ) → IsLine l → IsLegal l p → MeetsPath l p path
    → c < l.degree → 1 ≤ k
    → k ≤ last_stage l → Begins l p c k → Ends l p c k
    → end_tick l p c k ≤ℤ (begin_tick l p c k +ℤ pos p.period) → Keeps (ticks_of l p) p.period (visit_arc l path c k)
visit_by l path p c k line legal meets carrier from to (AtLoad zero_is hb b) last again = absurd (omega (arith, from, zero_is))
visit_by l path p c k line legal meets carrier from to (AfterMove later hb b) (ByMove lt he e) again =
    let before = move_before l c k line carrier from to in
    let w : ℤ = pos ((stage l k).lift + (stage l k).lower) -ℤ pos (high l path c (k - 1)) in
    let at_end : Arc = arc (move_number l c (last_step l)) (move_number l c (last_step l)) (pos ((stage l k).lower + l.unload)) (negsuc 0) in
    let inner : Arc = arc (move_number l c k) (move_number l c (k - 1)) w (negsuc 0) in
    let is : visit_arc l path c k ≡ inner = if_false (k == last_stage l) at_end inner (ne_eqb k (last_stage l) (λ x. omega (arith, x, lt))) in
    let K : Arc → Type 0 = λ a. Keeps (ticks_of l p) p.period a in
    subst K (sym is) (keeps_next (ticks_of l p) p.period (move_number l c k) (move_number l c (k - 1)) w (pos (p.start c k)) (pos (p.start c (k - 1)))
    (tick_is l p c k lt) (tick_is l p c (k - 1) (omega (arith, before.1)))
    (left (end_tick l p c k) (begin_tick l p c k) (p.start c k) (stage l k).lift (p.start c (k - 1)) (length_of l p c (k - 1)) (stage l k).lower
    (high l path c (k - 1)) p.period e b again (high_greatest l path p c (k - 1) legal meets before)))
  where
    left : (e b : ℤ) (start lift start' d lower hi period : ℕ) → e ≡ pos start +ℤ pos lift
        → b ≡ pos start' +ℤ (pos d -ℤ pos lower) → e ≤ℤ (b +ℤ pos period)
        → d ≤ hi
        → (pos start +ℤ (pos (lift + lower) -ℤ pos hi)) ≤ℤ (pos start' +ℤ pos period)
    left e b start lift start' d lower hi period f g h le = omega (arith, ints)
visit_by l path p c k line legal meets carrier from to (AfterMove later hb b) (AtUnload last he e) again =
    let stages : 2 ≤ length l.stages = line.limits.stages.0 in
    let w : ℤ = pos ((stage l k).lower + l.unload) in
    let at_end : Arc = arc (move_number l c (last_step l)) (move_number l c (last_step l)) w (negsuc 0) in
    let inner : Arc = arc (move_number l c k) (move_number l c (k - 1)) (pos ((stage l k).lift + (stage l k).lower) -ℤ pos (high l path c (k - 1)))
    (negsuc 0) in
    let is : visit_arc l path c k ≡ at_end = if_true (k == last_stage l) at_end inner (eq-eqb k (last_stage l) last) in
    let K : Arc → Type 0 = λ a. Keeps (ticks_of l p) p.period a in
    let tick : ticks_of l p (move_number l c (last_step l)) ≡ pos (p.start c (last_step l)) = tick_is l p c (last_step l) (omega (arith, stages)) in
    let before : k - 1 ≡ last_step l = omega (arith, last) in
    subst K (sym is) (keeps_next (ticks_of l p) p.period (move_number l c (last_step l)) (move_number l c (last_step l)) w (pos (p.start c (last_step l)))
    (pos (p.start c (last_step l))) tick tick
    (cleared (end_tick l p c k) (begin_tick l p c k) (p.start c (k - 1)) (length_of l p c (k - 1)) (stage l k).lower (p.start c (last_step l))
    (length_of l p c (last_step l)) l.unload p.period b e
    (ap (λ (j : ℕ). p.start c j) before) (ap (λ (j : ℕ). length_of l p c j) before) again))
  where
    cleared : (e b : ℤ) (start d lower start' d' unload period : ℕ) → b ≡ pos start +ℤ (pos d -ℤ pos lower)
        → e ≡ pos start' +ℤ pos (d' + unload)
        → start ≡ start' → d ≡ d' → e ≤ℤ (b +ℤ pos period)
        → (pos start' +ℤ pos (lower + unload)) ≤ℤ (pos start' +ℤ pos period)
    cleared e b start d lower start' d' unload period f g h i le = omega (arith, ints)

pub visit_row : (l : LineData) (path : List Decision) (p : Timetable) (c k : ℕ) → IsLine l → IsLegal l p
    → MeetsPath l p path → c < l.degree → 1 ≤ k
    → k ≤ last_stage l → Keeps (ticks_of l p) p.period (visit_arc l path c k)
visit_row l path p c k line legal meets carrier from to =
    let visit : IsVisit l c k = (carrier, omega (arith, to, line.limits.stages.0)) in
    visit_by l path p c k line legal meets carrier from to (begins l p c k line visit) (ends l p c k line visit) (visit_again l p c k line legal visit)

-- ---- repeat

-- the hoist of a move is back at its start a period later
pub back_in_time : (l : LineData) (p : Timetable) (c k : ℕ) → IsLine l → IsLegal l p → IsMove l c k
    → there_and_back (motion l p c k) ≤ p.period
back_in_time l p c k line legal move =
    let s : ℕ = p.start c k in
    let m = motion l p c k in
    let d : ℕ = duration m in
    let h : ℕ = p.hoist c k in
    let there = legal.carried.hoist c k move in
    let lasts : 1 ≤ d = omega (arith, (line.times.lift k move.1).0) in
    ⊎_elim
    (λ short.
    let r = legal.carried.alone h (s + 1 * p.period) c k 0 c k 1
    (record { move = move; hoist = refl; from = omega arith; before = omega (arith, short) })
    (record { move = move; hoist = refl; from = omega arith; before = omega (arith, lasts) }) in
    absurd (omega (arith, r.2)))
    (λ enough.
    let a : position p h (later p 0 s + d) ≡ m.to = on_move l p c k 0 d legal move (omega arith) ∙ at_end m in
    let b : position p h (later p 1 s + 0) ≡ m.from = on_move l p c k 1 0 legal move (omega arith) ∙ at_start m in
    let far = speed l p h (later p 0 s + d) (later p 1 s + 0) (p.period - d) legal.track there (omega (arith, enough)) (omega (arith, enough)) in
    let far' = speed l p h (later p 1 s + 0) (later p 0 s + d) (p.period - d) legal.track there (omega (arith, enough)) (omega (arith, enough)) in
    returns (position p h (later p 0 s + d)) (position p h (later p 1 s + 0)) m.to m.from d p.period a b far far' enough)
    (cases_lt p.period d)
  where
    returns : (x y to from d period : ℕ) → x ≡ to → y ≡ from → x ≤ y + (period - d) → y ≤ x + (period - d) → d ≤ period
        → d + abs_diff to from ≤ period
    returns x y to from d period e f far far' enough = omega arith

pub repeat_row : (l : LineData) (path : List Decision) (p : Timetable) (c k : ℕ) → IsLine l → IsLegal l p
    → MeetsPath l p path → c < l.degree → k ≤ last_step l
    → Keeps (ticks_of l p) p.period (repeat_arc l path c k)
repeat_row l path p c k line legal meets carrier to =
    let move = is_move l c k line carrier to in
    let tick = tick_is l p c k (omega (arith, move.1)) in
    keeps_next (ticks_of l p) p.period (move_number l c k) (move_number l c k) (pos (back l path c k)) (pos (p.start c k)) (pos (p.start c k)) tick tick
    (again (p.start c k) (back l path c k) (there_and_back (motion l p c k)) p.period (back_least l path p c k legal meets move)
    (back_in_time l p c k line legal move))
  where
    again : (s b d period : ℕ) → b ≤ d → d ≤ period → (pos s +ℤ pos b) ≤ℤ (pos s +ℤ pos period)
    again s b d period le le' = omega (arith, ints)
