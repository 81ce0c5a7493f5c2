-- The holds of a legal timetable: when they begin and end by the ticks of its moves, and that one tank's come one after
-- another.
use Rattle.std.proofs.Common.{⊎_elim, inl, inr, ◌⊎◌, ◌≡◌, ℕ, ◌+◌, ◌-◌, ◌*◌, ◌/◌, length, ◌%◌, ◌<◌, ◌≤◌, max, Bool, true, false, refl, sym, ◌∙◌, ap, subst, ℤ, pos, ◌+ℤ◌, ◌-ℤ◌, ◌*ℤ◌, neg_ℤ, ◌<ℤ◌, ◌≤ℤ◌, arith, ◌==◌, if◌then◌else◌}
use Rattle.std.proofs.lemmas.Bool.{cases_lt, eq-eqb, ne_eqb}
use Rattle.std.proofs.lemmas.Int.{ints, by_lt_z}
use Rattle.std.proofs.lemmas.Nat.{div-mul-add, div-add-mod'}
use Rattle.hoist_base.specs.LineData.{LineData, stage, last_stage, last_step, move_number, IsMove, IsVisit}
use Rattle.hoist_base.specs.Valid.{IsLine}
use Rattle.line_model.specs.Motion.{duration}
use Rattle.line_model.specs.Timetable.{Timetable, later, motion}
use Rattle.line_model.specs.Legal.{IsLegal, hold_begin, hold_end}
use Rattle.path_constraints.specs.Holds.{Moment, begin_of, end_of, tick_of, periods_later}
use Rattle.path_constraints.specs.Meets.{ticks_of, durations_of}
use Rattle.path_constraints.proofs.CoverTrackLemmas.{shifts}

-- the tick at the number of a move is its start
pub tick_is : (l : LineData) (p : Timetable) (c k : ℕ) → k < last_stage l
    → ticks_of l p (move_number l c k) ≡ pos (p.start c k)
tick_is l p c k lt =
    let n : ℕ = last_stage l in
    let d : (c * n + k) / n ≡ c = div-mul-add c n k lt in
    let m : (c * n + k) % n ≡ k = omega (arith, div-add-mod' (c * n + k) n, ap (λ (x : ℕ). x * n) d) in
    ap (λ (x : ℕ). pos (p.start x ((c * n + k) % n))) d ∙ ap (λ (y : ℕ). pos (p.start c y)) m

-- ---- the two tests

pub if_true : {X : Type 0} (b : Bool) (x y : X) → b ≡ true → (if b then x else y) ≡ x
if_true true x y e = refl
if_true false x y e = cc

pub if_false : {X : Type 0} (b : Bool) (x y : X) → b ≡ false → (if b then x else y) ≡ y
if_false true x y e = cc
if_false false x y e = refl

abbrev pub moment : ℕ → ℕ → ℤ → Moment
moment c k z = record { carrier = c; step = k; fixed = z }

pub begin_first : (l : LineData) (d : ℕ → ℕ → ℕ) (c k : ℕ) → k ≡ 0 → begin_of l d c k ≡ moment c 0 (neg_ℤ (pos l.load))
begin_first l d c k e =
    if_true (k == 0) (moment c 0 (neg_ℤ (pos l.load))) (moment c (k - 1) (pos (d c (k - 1)) -ℤ pos (stage l k).lower)) (eq-eqb k 0 e)

pub begin_later : (l : LineData) (d : ℕ → ℕ → ℕ) (c k : ℕ) → 0 < k
    → begin_of l d c k ≡ moment c (k - 1) (pos (d c (k - 1)) -ℤ pos (stage l k).lower)
begin_later l d c k lt =
    if_false (k == 0) (moment c 0 (neg_ℤ (pos l.load))) (moment c (k - 1) (pos (d c (k - 1)) -ℤ pos (stage l k).lower)) (ne_eqb k 0 (λ e. omega (arith, e, lt)))

pub end_last : (l : LineData) (d : ℕ → ℕ → ℕ) (c k : ℕ) → k ≡ last_stage l
    → end_of l d c k ≡ moment c (last_step l) (pos (d c (last_step l) + l.unload))
end_last l d c k e =
    if_true (k == last_stage l) (moment c (last_step l) (pos (d c (last_step l) + l.unload))) (moment c k (pos (stage l k).lift)) (eq-eqb k (last_stage l) e)

pub end_earlier : (l : LineData) (d : ℕ → ℕ → ℕ) (c k : ℕ) → k < last_stage l
    → end_of l d c k ≡ moment c k (pos (stage l k).lift)
end_earlier l d c k lt =
    if_false (k == last_stage l) (moment c (last_step l) (pos (d c (last_step l) + l.unload))) (moment c k (pos (stage l k).lift))
    (ne_eqb k (last_stage l) (λ e. omega (arith, e, lt)))

-- ---- a visit's hold, and its bounds by the ticks of moves

abbrev pub begin_tick : LineData → Timetable → ℕ → ℕ → ℤ
begin_tick l p c k = tick_of l (ticks_of l p) (begin_of l (durations_of l p) c k)

abbrev pub end_tick : LineData → Timetable → ℕ → ℕ → ℤ
end_tick l p c k = tick_of l (ticks_of l p) (end_of l (durations_of l p) c k)

abbrev pub length_of : LineData → Timetable → ℕ → ℕ → ℕ
length_of l p c k = duration (motion l p c k)

-- how the hold of visit (c, k) begins: at the load, or by the lowering of the move before
pub data Begins (l : LineData) (p : Timetable) (c k : ℕ) : Type 0 where
  AtLoad : k ≡ 0 → hold_begin l p c k ≡ p.put c → begin_tick l p c k ≡ pos (p.start c 0) -ℤ pos l.load → Begins l p c k
  AfterMove : 0 < k → hold_begin l p c k ≡ p.start c (k - 1) + length_of l p c (k - 1) - (stage l k).lower
      → begin_tick l p c k ≡ pos (p.start c (k - 1)) +ℤ (pos (length_of l p c (k - 1)) -ℤ pos (stage l k).lower)
      → Begins l p c k

-- how it ends: by the lifting of its own move, or at the unload
pub data Ends (l : LineData) (p : Timetable) (c k : ℕ) : Type 0 where
  ByMove : k < last_stage l → hold_end l p c k ≡ p.start c k + (stage l k).lift
      → end_tick l p c k ≡ pos (p.start c k) +ℤ pos (stage l k).lift → Ends l p c k
  AtUnload : k ≡ last_stage l → hold_end l p c k ≡ p.off c
      → end_tick l p c k ≡ pos (p.start c (last_step l)) +ℤ pos (length_of l p c (last_step l) + l.unload)
      → Ends l p c k

pub begins : (l : LineData) (p : Timetable) (c k : ℕ) → IsLine l → IsVisit l c k → Begins l p c k
begins l p c k line visit =
    let stages : 2 ≤ length l.stages = line.limits.stages.0 in
    let tick : Moment → ℤ = λ m. tick_of l (ticks_of l p) m in
    ⊎_elim
    (λ lt.
    AfterMove lt
    (if_false (k == 0) (p.put c) (p.start c (k - 1) + length_of l p c (k - 1) - (stage l k).lower) (ne_eqb k 0 (λ e. omega (arith, e, lt))))
    (ap tick (begin_later l (durations_of l p) c k lt)
    ∙ ap (λ (z : ℤ). z +ℤ (pos (length_of l p c (k - 1)) -ℤ pos (stage l k).lower)) (tick_is l p c (k - 1) (omega (arith, visit.1, stages, lt)))))
    (λ le.
    let e : k ≡ 0 = omega (arith, le) in
    AtLoad e
    (if_true (k == 0) (p.put c) (p.start c (k - 1) + length_of l p c (k - 1) - (stage l k).lower) (eq-eqb k 0 e))
    (ap tick (begin_first l (durations_of l p) c k e)
    ∙ ap (λ (z : ℤ). z +ℤ neg_ℤ (pos l.load)) (tick_is l p c 0 (omega (arith, stages)))
    ∙ omega (arith, ints)))
    (cases_lt 0 k)

pub ends : (l : LineData) (p : Timetable) (c k : ℕ) → IsLine l → IsVisit l c k → Ends l p c k
ends l p c k line visit =
    let stages : 2 ≤ length l.stages = line.limits.stages.0 in
    let tick : Moment → ℤ = λ m. tick_of l (ticks_of l p) m in
    ⊎_elim
    (λ lt.
    ByMove lt
    (if_false (k == last_stage l) (p.off c) (p.start c k + (stage l k).lift) (ne_eqb k (last_stage l) (λ e. omega (arith, e, lt))))
    (ap tick (end_earlier l (durations_of l p) c k lt) ∙ ap (λ (z : ℤ). z +ℤ pos (stage l k).lift) (tick_is l p c k lt)))
    (λ le.
    let e : k ≡ last_stage l = omega (arith, le, visit.1) in
    AtUnload e
    (if_true (k == last_stage l) (p.off c) (p.start c k + (stage l k).lift) (eq-eqb k (last_stage l) e))
    (ap tick (end_last l (durations_of l p) c k e)
    ∙ ap (λ (z : ℤ). z +ℤ pos (length_of l p c (last_step l) + l.unload)) (tick_is l p c (last_step l) (omega (arith, stages)))))
    (cases_lt k (last_stage l))

-- the hold spans at least the ticks from its begin to its end by the moves, and these are some
pub record SpansTicks (l : LineData) (p : Timetable) (c k : ℕ) : Type 0 where
  pub from : pos (hold_begin l p c k) ≤ℤ begin_tick l p c k
  pub to : end_tick l p c k ≤ℤ pos (hold_end l p c k)
  pub some : begin_tick l p c k <ℤ end_tick l p c k

-- the lowering is a part of the move before
pub lower_within : (l : LineData) (p : Timetable) (c k : ℕ) → 0 < k → (stage l k).lower ≤ length_of l p c (k - 1)
lower_within l p c k lt =
    let e : (stage l (k - 1 + 1)).lower ≡ (stage l k).lower = ap (λ (j : ℕ). (stage l j).lower) (omega (arith, lt)) in
    let within : (stage l (k - 1 + 1)).lower ≤ length_of l p c (k - 1) = omega arith in
    omega (arith, e, within)

-- the dwell before a move
pub dwells : (l : LineData) (p : Timetable) (c k : ℕ) → IsLegal l p → 0 < k → IsMove l c k
    → p.start c (k - 1) + length_of l p c (k - 1) + (stage l k).min ≤ p.start c k
dwells l p c k legal lt move =
    let e : k - 1 + 1 ≡ k = omega (arith, lt) in
    let P : ℕ → Type 0 = λ j. p.start c (k - 1) + length_of l p c (k - 1) + (stage l j).min ≤ p.start c j in
    subst P e (legal.windows.least c (k - 1) (move.0, omega (arith, move.1, lt)))

from_load : (hb put load start : ℕ) (b : ℤ) → hb ≡ put → b ≡ pos start -ℤ pos load → put + load ≤ start → pos hb ≤ℤ b
from_load hb put load start b e f h = omega (arith, ints)

from_move : (hb start d lower : ℕ) (b : ℤ) → hb ≡ start + d - lower → b ≡ pos start +ℤ (pos d -ℤ pos lower) → lower ≤ d
    → pos hb ≤ℤ b
from_move hb start d lower b e f h = omega (arith, ints)

to_move : (he start lift : ℕ) (e : ℤ) → he ≡ start + lift → e ≡ pos start +ℤ pos lift → e ≤ℤ pos he
to_move he start lift e f g = omega (arith, ints)

to_unload : (he off start d unload : ℕ) (e : ℤ) → he ≡ off → e ≡ pos start +ℤ pos (d + unload)
    → start + d + unload ≤ off → e ≤ℤ pos he
to_unload he off start d unload e f g h = omega (arith, ints)

some_lifting : (start load lift start' : ℕ) (b e : ℤ) → b ≡ pos start -ℤ pos load → e ≡ pos start' +ℤ pos lift
    → start' ≡ start → 1 ≤ lift → b <ℤ e
some_lifting start load lift start' b e f g h lasts = omega (arith, ints)

some_dwelling : (start d lower least start' lift : ℕ) (b e : ℤ) → b ≡ pos start +ℤ (pos d -ℤ pos lower)
    → e ≡ pos start' +ℤ pos lift
    → start + d + least ≤ start' → 1 ≤ lift → b <ℤ e
some_dwelling start d lower least start' lift b e f g h lasts = omega (arith, ints)

some_unloading : (start d lower start' d' unload : ℕ) (b e : ℤ) → b ≡ pos start +ℤ (pos d -ℤ pos lower)
    → e ≡ pos start' +ℤ pos (d' + unload) → start ≡ start'
    → d ≡ d' → 1 ≤ lower → b <ℤ e
some_unloading start d lower start' d' unload b e f g h i lasts = omega (arith, ints)

spans_by : (l : LineData) (p : Timetable) (c k : ℕ) → IsLine l → IsLegal l p → IsVisit l c k → Begins l p c k
    → Ends l p c k → SpansTicks l p c k
spans_by l p c k line legal visit (AtLoad zero_is hb b) (ByMove lt he e) =
    record {
      from = from_load (hold_begin l p c k) (p.put c) l.load (p.start c 0) (begin_tick l p c k) hb b (legal.windows.load c visit.0);
      to = to_move (hold_end l p c k) (p.start c k) (stage l k).lift (end_tick l p c k) he e;
      some = some_lifting (p.start c 0) l.load (stage l k).lift (p.start c k) (begin_tick l p c k) (end_tick l p c k) b e
          (ap (λ (j : ℕ). p.start c j) zero_is) (line.times.lift k (omega (arith, lt))).0;
    }
spans_by l p c k line legal visit (AtLoad zero_is hb b) (AtUnload last he e) = absurd (omega (arith, zero_is, last, line.limits.stages.0))
spans_by l p c k line legal visit (AfterMove later hb b) (ByMove lt he e) =
    record {
      from = from_move (hold_begin l p c k) (p.start c (k - 1)) (length_of l p c (k - 1)) (stage l k).lower (begin_tick l p c k) hb b
          (lower_within l p c k later);
      to = to_move (hold_end l p c k) (p.start c k) (stage l k).lift (end_tick l p c k) he e;
      some = some_dwelling (p.start c (k - 1)) (length_of l p c (k - 1)) (stage l k).lower (stage l k).min (p.start c k) (stage l k).lift (begin_tick l p c k)
          (end_tick l p c k) b e
          (dwells l p c k legal later (visit.0, omega (arith, lt))) (line.times.lift k (omega (arith, lt))).0;
    }
spans_by l p c k line legal visit (AfterMove later hb b) (AtUnload last he e) =
    let before : k - 1 ≡ last_step l = omega (arith, last) in
    let same : k - 1 + 1 ≡ k = omega (arith, later) in
    let L : ℕ → Type 0 = λ j. 1 ≤ (stage l j).lower in
    record {
      from = from_move (hold_begin l p c k) (p.start c (k - 1)) (length_of l p c (k - 1)) (stage l k).lower (begin_tick l p c k) hb b
          (lower_within l p c k later);
      to = to_unload (hold_end l p c k) (p.off c) (p.start c (last_step l)) (length_of l p c (last_step l)) l.unload (end_tick l p c k) he e
          (legal.windows.unload c visit.0);
      some = some_unloading (p.start c (k - 1)) (length_of l p c (k - 1)) (stage l k).lower (p.start c (last_step l)) (length_of l p c (last_step l)) l.unload
          (begin_tick l p c k) (end_tick l p c k) b e
          (ap (λ (j : ℕ). p.start c j) before) (ap (λ (j : ℕ). length_of l p c j) before)
          (subst L same (line.times.lower (k - 1) (omega (arith, later, visit.1))).0);
    }

pub spans_ticks : (l : LineData) (p : Timetable) (c k : ℕ) → IsLine l → IsLegal l p → IsVisit l c k → SpansTicks l p c k
spans_ticks l p c k line legal visit = spans_by l p c k line legal visit (begins l p c k line visit) (ends l p c k line visit)

-- ---- one tank

-- two stretches that meet share the later of their begins
shared : (b e b' e' turns turns' : ℕ) (ahead : ℤ) → b < e → b' < e' → ahead +ℤ pos turns ≡ pos turns'
    → (pos b' +ℤ ahead) <ℤ pos e → pos b <ℤ (pos e' +ℤ ahead)
    → (max (b + turns) (b' + turns') < e + turns) × (max (b + turns) (b' + turns') < e' + turns')
shared b e b' e' turns turns' ahead some some' is lt lt' = (omega (arith, ints), omega (arith, ints))

-- of two different visits of one tank, the second q periods later, one ends before the other begins
pub holds_apart : (l : LineData) (p : Timetable) (c k c' k' : ℕ) (q : ℤ) → IsLine l → IsLegal l p → IsVisit l c k
    → IsVisit l c' k' → p.tank c k ≡ p.tank c' k'
    → ((c ≡ c') × (k ≡ k') × (q ≡ pos 0) → ⊥)
    → (pos (hold_end l p c k) ≤ℤ periods_later (pos (hold_begin l p c' k')) q p.period)
    ⊎ (periods_later (pos (hold_end l p c' k')) q p.period ≤ℤ pos (hold_begin l p c k))
holds_apart l p c k c' k' q line legal visit visit' same differ =
    let b = hold_begin l p c k in
    let e = hold_end l p c k in
    let b' = hold_begin l p c' k' in
    let e' = hold_end l p c' k' in
    let s = shifts q p.period in
    let h = spans_ticks l p c k line legal visit in
    let h' = spans_ticks l p c' k' line legal visit' in
    let some : b < e = omega (arith, ints, h.from, h.to, h.some) in
    let some' : b' < e' = omega (arith, ints, h'.from, h'.to, h'.some) in
    by_lt_z (periods_later (pos b') q p.period) (pos e)
    (λ lt.
    by_lt_z (pos b) (periods_later (pos e') q p.period)
    (λ lt'.
    let t = max (b + s.first * p.period) (b' + s.second * p.period) in
    let within = shared b e b' e' (s.first * p.period) (s.second * p.period) (q *ℤ pos p.period) some some' s.is lt lt' in
    let one = legal.held (p.tank c k) t c k s.first c' k' s.second
    (record { visit = visit; tank = refl; from = omega arith; before = within.0 })
    (record { visit = visit'; tank = sym same; from = omega arith; before = within.1 }) in
    absurd (differ (one.0, one.1, none s.first s.second q s.turns one.2)))
    (λ le. inr le))
    (λ le. inl le)
  where
    none : (n m : ℕ) (q : ℤ) → q +ℤ pos n ≡ pos m → n ≡ m → q ≡ pos 0
    none n m q e f = omega (arith, ints)

-- the same by the ticks of moves
pub ticks_apart : (l : LineData) (p : Timetable) (c k c' k' : ℕ) (q : ℤ) → IsLine l → IsLegal l p → IsVisit l c k
    → IsVisit l c' k' → p.tank c k ≡ p.tank c' k'
    → ((c ≡ c') × (k ≡ k') × (q ≡ pos 0) → ⊥)
    → (end_tick l p c k ≤ℤ periods_later (begin_tick l p c' k') q p.period) ⊎ (periods_later (end_tick l p c' k') q p.period ≤ℤ begin_tick l p c k)
ticks_apart l p c k c' k' q line legal visit visit' same differ =
    let h = spans_ticks l p c k line legal visit in
    let h' = spans_ticks l p c' k' line legal visit' in
    ⊎_elim (λ le. inl (inner (pos (hold_end l p c k)) (pos (hold_begin l p c' k')) (end_tick l p c k) (begin_tick l p c' k') (q *ℤ pos p.period) h.to h'.from
    le))
    (λ le. inr (outer (pos (hold_end l p c' k')) (pos (hold_begin l p c k)) (end_tick l p c' k') (begin_tick l p c k) (q *ℤ pos p.period) h'.to h.from le))
    (holds_apart l p c k c' k' q line legal visit visit' same differ)
  where
    inner : (he hb e b ahead : ℤ) → e ≤ℤ he → hb ≤ℤ b → he ≤ℤ (hb +ℤ ahead) → e ≤ℤ (b +ℤ ahead)
    inner he hb e b ahead to from le = omega (arith, ints)

    outer : (he hb e b ahead : ℤ) → e ≤ℤ he → hb ≤ℤ b → (he +ℤ ahead) ≤ℤ hb → (e +ℤ ahead) ≤ℤ b
    outer he hb e b ahead to from le = omega (arith, ints)
