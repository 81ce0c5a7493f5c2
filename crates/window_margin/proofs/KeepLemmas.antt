-- What ticks keep where they meet the constraints of all pairs of visits and of moves.
use Rattle.std.proofs.Common.{⊎_elim, inl, inr, ◌≡◌, ℕ, zero, suc, ◌+◌, ◌*◌, ◌/◌, ◌%◌, ◌<◌, List, [], ◌∷◌, ◌++◌, length, All, refl, sym, ◌∙◌, ap, subst, arith, ℤ, pos, ◌+ℤ◌, ◌-ℤ◌, ◌*ℤ◌, neg_ℤ, ◌≤ℤ◌, Bool, cond, eq-eqb, Some, None}
use Rattle.std.specs.Prelude.{Option, nat_lt, if◌then◌else◌}
use Rattle.std.proofs.lemmas.Int.{ints}
use Rattle.std.proofs.lemmas.Bool.{cases_lt, cases_eq, ne_eqb, lt-ltb, le-ltb}
use Rattle.std.proofs.lemmas.Nat.{div-add-mod', mod_below, div-mul-add, mod-mul-add, mul-le}
use Rattle.std.proofs.lemmas.List.Elements.{All-append, All-nil, All-cons, All-head, All-tail, All-take, All-drop}
use Rattle.std.proofs.Math.Seq.{take-append_seam, drop-append_seam}
use Rattle.hoist_base.specs.LineData.{LineData, last_stage, move_number, move_count, move_at, visit_number, visit_count, visit_at, IsMove}
use Rattle.hoist_base.specs.declared.ids.MoveId.{MoveId}
use Rattle.hoist_base.specs.declared.ids.VisitId.{VisitId}
use Rattle.line_model.specs.Timetable.{Timetable}
use Rattle.longest_path.specs.declared.systems.Arc.{Arc}
use Rattle.collision_pairs.specs.declared.span.Span.{Span}
use Rattle.path_constraints.specs.declared.holds.Moment.{Moment}
use Rattle.path_constraints.specs.Holds.{begin_of, end_of, tick_of, node_of, periods_later}
use Rattle.path_constraints.specs.Constraints.{moment_arc, span_arc, Keeps}
use Rattle.path_constraints.specs.Questions.{IsBefore, offset_of}
use Rattle.path_constraints.specs.Meets.{durations_of}
use Rattle.path_constraints.proofs.CoverTrackLemmas.{times_back}
use Rattle.window_margin.specs.Orders.{UseOneTank, own_clash, visit_order, move_order}
use Rattle.window_margin.specs.Arcs.{at_period, rows_below, ordered_visits, visit_pair, ordered_moves, spanned_moves, move_pair, visit_row, visit_arcs, move_row, move_arcs}

-- ---- rows

all_left : (P : Arc → Type 0) (xs ys : List Arc) → All P (xs ++ ys) → All P xs
all_left P xs ys h = subst (λ (zs : List Arc). All P zs) (take-append_seam xs ys) (All-take P (length xs) (xs ++ ys) h)

all_right : (P : Arc → Type 0) (xs ys : List Arc) → All P (xs ++ ys) → All P ys
all_right P xs ys h = subst (λ (zs : List Arc). All P zs) (drop-append_seam xs ys) (All-drop P (length xs) (xs ++ ys) h)

pub split_all : (P : Arc → Type 0) (xs ys : List Arc) → All P (xs ++ ys) → All P xs × All P ys
split_all P xs ys h = (all_left P xs ys h, all_right P xs ys h)

rows_all : (P : Arc → Type 0) (row : ℕ → List Arc) (n : ℕ) → ((i : ℕ) → i < n → All P (row i))
    → All P (rows_below row n)
rows_all P row zero h = All-nil P
rows_all P row (suc n) h = All-append P (rows_below row n) (row n) (rows_all P row n (λ i lt. h i (omega (arith, lt)))) (h n (omega arith))

rows_each : (P : Arc → Type 0) (row : ℕ → List Arc) (n : ℕ) → All P (rows_below row n) → (i : ℕ) → i < n → All P (row i)
rows_each P row zero h i lt = absurd (omega (arith, lt))
rows_each P row (suc n) h i lt =
    ⊎_elim (λ below. rows_each P row n (all_left P (rows_below row n) (row n) h) i below)
    (λ past. let e : n ≡ i = omega (arith, lt, past) in subst (λ (j : ℕ). All P (row j)) e (all_right P (rows_below row n) (row n) h))
    (cases_lt i n)

guarded : (P : Arc → Type 0) (i j : ℕ) (xs : List Arc) → (i < j → All P xs) → All P (if nat_lt i j then xs else [])
guarded P i j xs h =
    ⊎_elim (λ lt. subst (λ (b : Bool). All P (cond b xs [])) (sym (lt-ltb i j lt)) (h lt))
    (λ le. subst (λ (b : Bool). All P (cond b xs [])) (sym (le-ltb i j le)) (All-nil P))
    (cases_lt i j)

opened : (P : Arc → Type 0) (i j : ℕ) (xs : List Arc) → All P (if nat_lt i j then xs else []) → i < j → All P xs
opened P i j xs h lt = subst (λ (b : Bool). All P (cond b xs [])) (lt-ltb i j lt) h

pub two : (P : Arc → Type 0) (a b : Arc) → P a → P b → All P (a ∷ b ∷ [])
two P a b x y = All-cons P a (b ∷ []) x (All-cons P b [] y (All-nil P))

both : (P : Arc → Type 0) (a b : Arc) → All P (a ∷ b ∷ []) → P a × P b
both P a b h = (All-head P a (b ∷ []) h, All-head P b [] (All-tail P a (b ∷ []) h))

-- ---- numbers

pub in_row : (i d n : ℕ) → 0 < n → i < d * n → (i / n < d) × (i % n < n)
in_row i d n some lt = (
  ⊎_elim (λ below. below)
      (λ past. let le = mul-le d n (i / n) n past (omega arith) in absurd (omega (arith, le, lt, div-add-mod' i n)))
      (cases_lt (i / n) d),
  mod_below i n some,
)

pub rises : (i j n : ℕ) → 0 < n → i < j → IsBefore (i / n) (i % n) (j / n) (j % n)
rises i j n some lt =
    ⊎_elim (λ below. inl below)
    (λ past.
    ⊎_elim
    (λ above.
    let le = mul-le (j / n + 1) n (i / n) n (omega (arith, above)) (omega arith) in
    let more : (j / n + 1) * n ≡ j / n * n + n = omega arith in
    absurd (omega (arith, le, more, lt, div-add-mod' i n, div-add-mod' j n, mod_below j n some)))
    (λ le.
    let e : i / n ≡ j / n = omega (arith, past, le) in
    let rows : i / n * n ≡ j / n * n = ap (λ (x : ℕ). x * n) e in
    inr (e, omega (arith, lt, rows, div-add-mod' i n, div-add-mod' j n)))
    (cases_lt (j / n) (i / n)))
    (cases_lt (i / n) (j / n))

pub number_rises : (c k c' k' n : ℕ) → k < n → k' < n → IsBefore c k c' k' → c * n + k < c' * n + k'
number_rises c k c' k' n lt lt' before =
    ⊎_elim
    (λ less.
    let le = mul-le (c + 1) n c' n (omega (arith, less)) (omega arith) in
    let more : (c + 1) * n ≡ c * n + n = omega arith in
    omega (arith, le, more, lt))
    (λ (e, less). let rows : c * n ≡ c' * n = ap (λ (x : ℕ). x * n) e in omega (arith, rows, less))
    before

pub number_below : (c k d n : ℕ) → c < d → k < n → c * n + k < d * n
number_below c k d n lt lt' =
    let le = mul-le (c + 1) n d n (omega (arith, lt)) (omega arith) in
    let more : (c + 1) * n ≡ c * n + n = omega arith in
    omega (arith, le, more, lt')

abbrev visit : ℕ → ℕ → VisitId
visit c k = record { carrier = c; stage = k }

abbrev move : ℕ → ℕ → MoveId
move c k = record { carrier = c; step = k }

at_visit : (l : LineData) (v : VisitId) → v.stage < length l.stages → visit_at l (visit_number l v.carrier v.stage) ≡ v
at_visit l v lt =
    ap (λ (c : ℕ). visit c ((v.carrier * length l.stages + v.stage) % length l.stages)) (div-mul-add v.carrier (length l.stages) v.stage lt)
    ∙ ap (λ (k : ℕ). visit v.carrier k) (mod-mul-add v.carrier (length l.stages) v.stage lt)

at_move : (l : LineData) (m : MoveId) → m.step < last_stage l → move_at l (move_number l m.carrier m.step) ≡ m
at_move l m lt =
    ap (λ (c : ℕ). move c ((m.carrier * last_stage l + m.step) % last_stage l)) (div-mul-add m.carrier (last_stage l) m.step lt)
    ∙ ap (λ (k : ℕ). move m.carrier k) (mod-mul-add m.carrier (last_stage l) m.step lt)

-- ---- one constraint

no_share : (g : ℕ) → pos 0 *ℤ pos g ≡ pos 0
no_share g = omega (arith, ints)

keeps_moment : (l : LineData) (t : ℕ → ℤ) (g n : ℕ) (x y : Moment) (q : ℤ)
    → tick_of l t x ≤ℤ periods_later (tick_of l t y) q n
    → Keeps t g (at_period n (pos 0) (moment_arc l x y q))
keeps_moment l t g n x y q h =
    there (t (node_of l x)) x.fixed (t (node_of l y)) y.fixed (q *ℤ pos n) (neg_ℤ q *ℤ pos n) (pos 0 *ℤ pos g) (times_back q n) (no_share g) h
  where
    there : (s f s' f' ahead back none : ℤ) → back ≡ neg_ℤ ahead → none ≡ pos 0 → (s +ℤ f) ≤ℤ ((s' +ℤ f') +ℤ ahead)
        → (s +ℤ (((f -ℤ f') +ℤ back) +ℤ none)) ≤ℤ s'
    there s f s' f' ahead back none e z h = omega (arith, ints)

moment_kept : (l : LineData) (t : ℕ → ℤ) (g n : ℕ) (x y : Moment) (q : ℤ)
    → Keeps t g (at_period n (pos 0) (moment_arc l x y q))
    → tick_of l t x ≤ℤ periods_later (tick_of l t y) q n
moment_kept l t g n x y q h =
    again (t (node_of l x)) x.fixed (t (node_of l y)) y.fixed (q *ℤ pos n) (neg_ℤ q *ℤ pos n) (pos 0 *ℤ pos g) (times_back q n) (no_share g) h
  where
    again : (s f s' f' ahead back none : ℤ) → back ≡ neg_ℤ ahead → none ≡ pos 0
        → (s +ℤ (((f -ℤ f') +ℤ back) +ℤ none)) ≤ℤ s'
        → (s +ℤ f) ≤ℤ ((s' +ℤ f') +ℤ ahead)
    again s f s' f' ahead back none e z h = omega (arith, ints)

-- ---- pairs of visits

-- the ticks keep the order of two visits
abbrev pub KeepsVisits : LineData → Timetable → (ℕ → ℤ) → VisitId → VisitId → Type 0
KeepsVisits l p t a b =
    let d = durations_of l p in
    let q = visit_order l p a b in
    (tick_of l t (end_of l d a.carrier a.stage) ≤ℤ periods_later (tick_of l t (begin_of l d b.carrier b.stage)) q p.period)
    × (periods_later (tick_of l t (end_of l d b.carrier b.stage)) (q -ℤ pos 1) p.period ≤ℤ tick_of l t (begin_of l d a.carrier a.stage))

turn : (e b ahead back : ℤ) → back ≡ neg_ℤ ahead → (e +ℤ ahead) ≤ℤ b → e ≤ℤ (b +ℤ back)
turn e b ahead back f h = omega (arith, ints)

turn_back : (e b ahead back : ℤ) → back ≡ neg_ℤ ahead → e ≤ℤ (b +ℤ back) → (e +ℤ ahead) ≤ℤ b
turn_back e b ahead back f h = omega (arith, ints)

visits_all : (l : LineData) (p : Timetable) (t : ℕ → ℤ) (g : ℕ) (a b : VisitId) → KeepsVisits l p t a b
    → All (Keeps t g) (ordered_visits l p a b (visit_order l p a b))
visits_all l p t g a b h =
    let d = durations_of l p in
    let q = visit_order l p a b in
    let n = p.period in
    let e = tick_of l t (end_of l d b.carrier b.stage) in
    let s = tick_of l t (begin_of l d a.carrier a.stage) in
    two (Keeps t g) (at_period n (pos 0) (moment_arc l (end_of l d a.carrier a.stage) (begin_of l d b.carrier b.stage) q))
    (at_period n (pos 0) (moment_arc l (end_of l d b.carrier b.stage) (begin_of l d a.carrier a.stage) (neg_ℤ (q -ℤ pos 1))))
    (keeps_moment l t g n (end_of l d a.carrier a.stage) (begin_of l d b.carrier b.stage) q h.0)
    (keeps_moment l t g n (end_of l d b.carrier b.stage) (begin_of l d a.carrier a.stage) (neg_ℤ (q -ℤ pos 1))
    (turn e s ((q -ℤ pos 1) *ℤ pos n) (neg_ℤ (q -ℤ pos 1) *ℤ pos n) (times_back (q -ℤ pos 1) n) h.1))

all_visits : (l : LineData) (p : Timetable) (t : ℕ → ℤ) (g : ℕ) (a b : VisitId)
    → All (Keeps t g) (ordered_visits l p a b (visit_order l p a b))
    → KeepsVisits l p t a b
all_visits l p t g a b h =
    let d = durations_of l p in
    let q = visit_order l p a b in
    let n = p.period in
    let e = tick_of l t (end_of l d b.carrier b.stage) in
    let s = tick_of l t (begin_of l d a.carrier a.stage) in
    let r = both (Keeps t g) (at_period n (pos 0) (moment_arc l (end_of l d a.carrier a.stage) (begin_of l d b.carrier b.stage) q))
    (at_period n (pos 0) (moment_arc l (end_of l d b.carrier b.stage) (begin_of l d a.carrier a.stage) (neg_ℤ (q -ℤ pos 1)))) h in (
      moment_kept l t g n (end_of l d a.carrier a.stage) (begin_of l d b.carrier b.stage) q r.0,
      turn_back e s ((q -ℤ pos 1) *ℤ pos n) (neg_ℤ (q -ℤ pos 1) *ℤ pos n) (times_back (q -ℤ pos 1) n)
          (moment_kept l t g n (end_of l d b.carrier b.stage) (begin_of l d a.carrier a.stage) (neg_ℤ (q -ℤ pos 1)) r.1),
    )

pub visit_arcs_all : (l : LineData) (p : Timetable) (P : Arc → Type 0) → 0 < length l.stages
    → ((a b : VisitId) → UseOneTank l p a b → All P (ordered_visits l p a b (visit_order l p a b)))
    → All P (visit_arcs l p)
visit_arcs_all l p P some h =
    let n = length l.stages in
    rows_all P (λ i. rows_below (visit_row l p i) (visit_count l)) (visit_count l)
    (λ i lt. rows_all P (visit_row l p i) (visit_count l)
    (λ j lt'. guarded P i j (visit_pair l p (visit_at l i) (visit_at l j))
    (λ less.
    let a = visit_at l i in
    let b = visit_at l j in
    let L = ordered_visits l p a b (visit_order l p a b) in
    ⊎_elim
    (λ same.
    let pair : UseOneTank l p a b = record {
      first = in_row i l.degree n some lt;
      second = in_row j l.degree n some lt';
      before = rises i j n some less;
      tank = same;
    } in
    subst (λ (x : Bool). All P (cond x L [])) (sym (eq-eqb (p.tank a.carrier a.stage) (p.tank b.carrier b.stage) same)) (h a b pair))
    (λ differ. subst (λ (x : Bool). All P (cond x L [])) (sym (ne_eqb (p.tank a.carrier a.stage) (p.tank b.carrier b.stage) differ)) (All-nil P))
    (cases_eq (p.tank a.carrier a.stage) (p.tank b.carrier b.stage)))))

pub visit_arcs_kept : (l : LineData) (p : Timetable) (t : ℕ → ℤ) (g : ℕ) → 0 < length l.stages
    → ((a b : VisitId) → UseOneTank l p a b → KeepsVisits l p t a b) → All (Keeps t g) (visit_arcs l p)
visit_arcs_kept l p t g some h = visit_arcs_all l p (Keeps t g) some (λ a b pair. visits_all l p t g a b (h a b pair))

pub visit_arcs_keep : (l : LineData) (p : Timetable) (t : ℕ → ℤ) (g : ℕ) → All (Keeps t g) (visit_arcs l p)
    → (a b : VisitId) → UseOneTank l p a b
    → KeepsVisits l p t a b
visit_arcs_keep l p t g h a b pair =
    let n = length l.stages in
    let P : Arc → Type 0 = Keeps t g in
    let i : ℕ = visit_number l a.carrier a.stage in
    let j : ℕ = visit_number l b.carrier b.stage in
    let less = number_rises a.carrier a.stage b.carrier b.stage n pair.first.1 pair.second.1 pair.before in
    let row = rows_each P (λ x. rows_below (visit_row l p x) (visit_count l)) (visit_count l) h i
    (number_below a.carrier a.stage l.degree n pair.first.0 pair.first.1) in
    let here = rows_each P (visit_row l p i) (visit_count l) row j (number_below b.carrier b.stage l.degree n pair.second.0 pair.second.1) in
    let at : All P (visit_pair l p (visit_at l i) (visit_at l j)) = opened P i j (visit_pair l p (visit_at l i) (visit_at l j)) here less in
    let one = subst (λ (v : VisitId). All P (visit_pair l p v (visit_at l j))) (at_visit l a pair.first.1) at in
    let two : All P (visit_pair l p a b) = subst (λ (v : VisitId). All P (visit_pair l p a v)) (at_visit l b pair.second.1) one in
    all_visits l p t g a b
    (subst (λ (x : Bool). All P (cond x (ordered_visits l p a b (visit_order l p a b)) []))
    (eq-eqb (p.tank a.carrier a.stage) (p.tank b.carrier b.stage) pair.tank) two)

-- ---- pairs of moves

-- the ticks keep the order of two moves
abbrev pub KeepsMoves : LineData → Timetable → (ℕ → ℤ) → MoveId → MoveId → Span → Type 0
KeepsMoves l p t a b span =
    let q = move_order l p a b span in
    (span.after ≤ℤ offset_of l t p.period a b q) × (span.before ≤ℤ neg_ℤ (offset_of l t p.period a b (q -ℤ pos 1)))

keeps_after : (l : LineData) (t : ℕ → ℤ) (g n : ℕ) (a b : MoveId) (q : ℤ) (span : Span)
    → span.after ≤ℤ offset_of l t n a b q
    → Keeps t g (at_period n (pos 0) (span_arc l a b q 0 (Some span)))
keeps_after l t g n a b q span h =
    there (t (move_number l a.carrier a.step)) (t (move_number l b.carrier b.step)) span.after (q *ℤ pos n)
    (neg_ℤ q *ℤ pos n) (pos 0 *ℤ pos g) (times_back q n) (no_share g) h
  where
    there : (s s' w ahead back none : ℤ) → back ≡ neg_ℤ ahead → none ≡ pos 0 → w ≤ℤ ((s' +ℤ ahead) -ℤ s)
        → (s +ℤ ((w +ℤ back) +ℤ none)) ≤ℤ s'
    there s s' w ahead back none e z h = omega (arith, ints)

after_kept : (l : LineData) (t : ℕ → ℤ) (g n : ℕ) (a b : MoveId) (q : ℤ) (span : Span)
    → Keeps t g (at_period n (pos 0) (span_arc l a b q 0 (Some span)))
    → span.after ≤ℤ offset_of l t n a b q
after_kept l t g n a b q span h =
    again (t (move_number l a.carrier a.step)) (t (move_number l b.carrier b.step)) span.after (q *ℤ pos n)
    (neg_ℤ q *ℤ pos n) (pos 0 *ℤ pos g) (times_back q n) (no_share g) h
  where
    again : (s s' w ahead back none : ℤ) → back ≡ neg_ℤ ahead → none ≡ pos 0 → (s +ℤ ((w +ℤ back) +ℤ none)) ≤ℤ s'
        → w ≤ℤ ((s' +ℤ ahead) -ℤ s)
    again s s' w ahead back none e z h = omega (arith, ints)

keeps_before : (l : LineData) (t : ℕ → ℤ) (g n : ℕ) (a b : MoveId) (q : ℤ) (span : Span)
    → span.before ≤ℤ neg_ℤ (offset_of l t n a b q)
    → Keeps t g (at_period n (pos 0) (span_arc l a b q 1 (Some span)))
keeps_before l t g n a b q span h =
    there (t (move_number l a.carrier a.step)) (t (move_number l b.carrier b.step)) span.before (q *ℤ pos n) (pos 0 *ℤ pos g) (no_share g) h
  where
    there : (s s' w ahead none : ℤ) → none ≡ pos 0 → w ≤ℤ neg_ℤ ((s' +ℤ ahead) -ℤ s)
        → (s' +ℤ ((w +ℤ ahead) +ℤ none)) ≤ℤ s
    there s s' w ahead none z h = omega (arith, ints)

before_kept : (l : LineData) (t : ℕ → ℤ) (g n : ℕ) (a b : MoveId) (q : ℤ) (span : Span)
    → Keeps t g (at_period n (pos 0) (span_arc l a b q 1 (Some span)))
    → span.before ≤ℤ neg_ℤ (offset_of l t n a b q)
before_kept l t g n a b q span h =
    again (t (move_number l a.carrier a.step)) (t (move_number l b.carrier b.step)) span.before (q *ℤ pos n) (pos 0 *ℤ pos g) (no_share g) h
  where
    again : (s s' w ahead none : ℤ) → none ≡ pos 0 → (s' +ℤ ((w +ℤ ahead) +ℤ none)) ≤ℤ s
        → w ≤ℤ neg_ℤ ((s' +ℤ ahead) -ℤ s)
    again s s' w ahead none z h = omega (arith, ints)

moves_both : (l : LineData) (p : Timetable) (t : ℕ → ℤ) (g : ℕ) (a b : MoveId) (span : Span) → KeepsMoves l p t a b span
    → All (Keeps t g) (ordered_moves l p a b (move_order l p a b span) (Some span))
moves_both l p t g a b span k =
    let q = move_order l p a b span in
    two (Keeps t g) (at_period p.period (pos 0) (span_arc l a b q 0 (Some span))) (at_period p.period (pos 0) (span_arc l a b (q -ℤ pos 1) 1 (Some span)))
    (keeps_after l t g p.period a b q span k.0) (keeps_before l t g p.period a b (q -ℤ pos 1) span k.1)

all_moves : (l : LineData) (p : Timetable) (t : ℕ → ℤ) (g : ℕ) (a b : MoveId) (span : Span)
    → All (Keeps t g) (ordered_moves l p a b (move_order l p a b span) (Some span)) → KeepsMoves l p t a b span
all_moves l p t g a b span h =
    let q = move_order l p a b span in
    let r = both (Keeps t g) (at_period p.period (pos 0) (span_arc l a b q 0 (Some span)))
    (at_period p.period (pos 0) (span_arc l a b (q -ℤ pos 1) 1 (Some span))) h in
    (after_kept l t g p.period a b q span r.0, before_kept l t g p.period a b (q -ℤ pos 1) span r.1)

-- two moves in their order that collide at some offsets
pub record Collide (l : LineData) (p : Timetable) (a b : MoveId) (span : Span) : Type 0 where
  pub first : IsMove l a.carrier a.step
  pub second : IsMove l b.carrier b.step
  pub before : IsBefore a.carrier a.step b.carrier b.step
  pub clash : own_clash l p a b ≡ Some span

step_there : (l : LineData) (c k : ℕ) → (c < l.degree) × (k < last_stage l) → IsMove l c k
step_there l c k h = (h.0, omega (arith, h.1))

given_span : (l : LineData) (p : Timetable) (P : Arc → Type 0) (a b : MoveId) (o : Option Span)
    → ((span : Span) → o ≡ Some span → All P (ordered_moves l p a b (move_order l p a b span) (Some span)))
    → All P (spanned_moves l p a b o)
given_span l p P a b None h = All-nil P
given_span l p P a b (Some span) h = h span refl

pub move_arcs_all : (l : LineData) (p : Timetable) (P : Arc → Type 0) → 0 < last_stage l
    → ((a b : MoveId) (span : Span) → Collide l p a b span → All P (ordered_moves l p a b (move_order l p a b span) (Some span)))
    → All P (move_arcs l p)
move_arcs_all l p P some h =
    let n = last_stage l in
    rows_all P (λ i. rows_below (move_row l p i) (move_count l)) (move_count l)
    (λ i lt. rows_all P (move_row l p i) (move_count l)
    (λ j lt'. guarded P i j (move_pair l p (move_at l i) (move_at l j))
    (λ less.
    let a = move_at l i in
    let b = move_at l j in
    given_span l p P a b (own_clash l p a b)
    (λ span e. h a b span (record {
      first = step_there l a.carrier a.step (in_row i l.degree n some lt);
      second = step_there l b.carrier b.step (in_row j l.degree n some lt');
      before = rises i j n some less;
      clash = e;
    })))))

pub move_arcs_kept : (l : LineData) (p : Timetable) (t : ℕ → ℤ) (g : ℕ) → 0 < last_stage l
    → ((a b : MoveId) (span : Span) → Collide l p a b span → KeepsMoves l p t a b span)
    → All (Keeps t g) (move_arcs l p)
move_arcs_kept l p t g some h = move_arcs_all l p (Keeps t g) some (λ a b span pair. moves_both l p t g a b span (h a b span pair))

pub move_arcs_keep : (l : LineData) (p : Timetable) (t : ℕ → ℤ) (g : ℕ) → All (Keeps t g) (move_arcs l p)
    → (a b : MoveId) (span : Span)
    → Collide l p a b span → KeepsMoves l p t a b span
move_arcs_keep l p t g h a b span pair =
    let n = last_stage l in
    let P : Arc → Type 0 = Keeps t g in
    let i : ℕ = move_number l a.carrier a.step in
    let j : ℕ = move_number l b.carrier b.step in
    let lt : a.step < n = omega (arith, pair.first.1) in
    let lt' : b.step < n = omega (arith, pair.second.1) in
    let less = number_rises a.carrier a.step b.carrier b.step n lt lt' pair.before in
    let row = rows_each P (λ x. rows_below (move_row l p x) (move_count l)) (move_count l) h i (number_below a.carrier a.step l.degree n pair.first.0 lt) in
    let here = rows_each P (move_row l p i) (move_count l) row j (number_below b.carrier b.step l.degree n pair.second.0 lt') in
    let at : All P (move_pair l p (move_at l i) (move_at l j)) = opened P i j (move_pair l p (move_at l i) (move_at l j)) here less in
    let one = subst (λ (v : MoveId). All P (move_pair l p v (move_at l j))) (at_move l a lt) at in
    let two : All P (move_pair l p a b) = subst (λ (v : MoveId). All P (move_pair l p a v)) (at_move l b lt') one in
    all_moves l p t g a b span (subst (λ (o : Option Span). All P (spanned_moves l p a b o)) pair.clash two)
