-- Each pair has one order, which is the least number of periods that are no fewer ticks than those between.
use Rattle.std.proofs.Common.{◌≡◌, ℕ, suc, ◌+◌, ◌*◌, ◌/◌, ◌%◌, ◌≤◌, sym, ap, subst, arith, ℤ, pos, negsuc, ◌+ℤ◌, ◌-ℤ◌, ◌*ℤ◌, neg_ℤ, ◌≤ℤ◌, ◌<ℤ◌, Some}
use Rattle.std.specs.Prelude.{Option, IsSomeAnd, min}
use Rattle.std.proofs.lemmas.Int.{ints, by_lt_z}
use Rattle.std.proofs.lemmas.Nat.{div-add-mod', mod_below}
use Rattle.std.proofs.lemmas.Grind.{div_ceil_times}
use Rattle.list_facts.proofs.Products.{times_add, times_mono}
use Rattle.hoist_base.specs.LineData.{LineData}
use Rattle.hoist_base.specs.declared.ids.MoveId.{MoveId}
use Rattle.hoist_base.specs.declared.ids.VisitId.{VisitId}
use Rattle.line_model.specs.Timetable.{Timetable}
use Rattle.collision_pairs.specs.declared.span.Span.{Span}
use Rattle.path_constraints.specs.Questions.{offset_of}
use Rattle.path_constraints.specs.Meets.{ticks_of}
use Rattle.path_constraints.proofs.CoverTrackLemmas.{times_back}
use Rattle.window_margin.specs.Orders.{IsLeastWhole, own_clash, begin_tick, end_tick, start_tick, BeginsAfter, StartsAfter, IsVisitOrder, IsMoveOrder, periods_for, visit_order, move_order}

-- ---- periods

-- one period fewer
pub one_fewer : (q : ℤ) (n : ℕ) → (q -ℤ pos 1) *ℤ pos n ≡ q *ℤ pos n -ℤ pos n
one_fewer q n =
    let same : q -ℤ pos 1 ≡ q +ℤ negsuc 0 = omega (arith, ints) in
    let one : negsuc 0 *ℤ pos n ≡ neg_ℤ (pos n) = omega (arith, ints) in
    omega (arith, ints, ap (λ (z : ℤ). z *ℤ pos n) same, times_add q (negsuc 0) n, one)

pub reached : (w : ℤ) (n : ℕ) → 1 ≤ n → (w ≤ℤ (periods_for w n *ℤ pos n)) × ((periods_for w n *ℤ pos n -ℤ pos n) <ℤ w)
reached (pos x) n some =
    let bounds = div_ceil_times x n some in
    let d : ℕ = x / n + min 1 (x % n) in
    let e : pos d *ℤ pos n ≡ pos (d * n) = omega (arith, ints) in
    (omega (arith, ints, e, bounds.0), omega (arith, ints, e, bounds.1))
reached (negsuc x) n some =
    let m : ℕ = suc x / n in
    let split = div-add-mod' (suc x) n in
    let below = mod_below (suc x) n some in
    let e : pos m *ℤ pos n ≡ pos (m * n) = omega (arith, ints) in
    let back = times_back (pos m) n in
    (omega (arith, ints, split, below, e, back), omega (arith, ints, split, below, e, back))

pub least_periods : (w : ℤ) (n : ℕ) → 1 ≤ n → IsLeastWhole (λ z. w ≤ℤ (z *ℤ pos n)) (periods_for w n)
least_periods w n some =
    let q = periods_for w n in
    let r = reached w n some in
    record {
      holds = r.0;
      least = λ z le.
          by_lt_z z q
          (λ lt.
          let before : z ≤ℤ (q -ℤ pos 1) = omega (arith, ints, lt) in
          let times = times_mono z (q -ℤ pos 1) n before in
          absurd (fewer w (z *ℤ pos n) ((q -ℤ pos 1) *ℤ pos n) (q *ℤ pos n) (pos n) (one_fewer q n) times le r.1))
          (λ ge. ge);
    }
  where
    fewer : (w a b c m : ℤ) → b ≡ c -ℤ m → a ≤ℤ b → w ≤ℤ a → (c -ℤ m) <ℤ w → ⊥
    fewer w a b c m e f g h = omega (arith, ints)

pub same_least : (P Q : ℤ → Type 0) (q : ℤ) → ((z : ℤ) → P z → Q z) → ((z : ℤ) → Q z → P z) → IsLeastWhole P q
    → IsLeastWhole Q q
same_least P Q q to from h = record { holds = to q h.holds; least = λ z is. h.least z (from z is) }

-- there is one
pub one_least : (P : ℤ → Type 0) (q r : ℤ) → IsLeastWhole P q → IsLeastWhole P r → q ≡ r
one_least P q r h k = omega (arith, ints, h.least r k.holds, k.least q h.holds)

-- ---- orders

pub visit_order_is : (l : LineData) (p : Timetable) (a b : VisitId) → 1 ≤ p.period
    → IsVisitOrder l p a b (visit_order l p a b)
visit_order_is l p a b some =
    let e = end_tick l p a in
    let s = begin_tick l p b in
    same_least (λ z. (e -ℤ s) ≤ℤ (z *ℤ pos p.period)) (BeginsAfter l p a b) (visit_order l p a b)
    (λ z h. there e s (z *ℤ pos p.period) h) (λ z h. back e s (z *ℤ pos p.period) h) (least_periods (e -ℤ s) p.period some)
  where
    there : (e s t : ℤ) → (e -ℤ s) ≤ℤ t → e ≤ℤ (s +ℤ t)
    there e s t h = omega (arith, ints)

    back : (e s t : ℤ) → e ≤ℤ (s +ℤ t) → (e -ℤ s) ≤ℤ t
    back e s t h = omega (arith, ints)

-- the same with the clash known
pub starts_at : (l : LineData) (p : Timetable) (a b : MoveId) (span : Span) (z : ℤ) → own_clash l p a b ≡ Some span
    → span.after ≤ℤ offset_of l (ticks_of l p) p.period a b z → StartsAfter l p a b z
starts_at l p a b span z e h =
    let P : Option Span → Type 0 = λ o. IsSomeAnd o (λ s. s.after ≤ℤ offset_of l (ticks_of l p) p.period a b z) in
    subst P (sym e) h

pub starts_from : (l : LineData) (p : Timetable) (a b : MoveId) (span : Span) (z : ℤ) → own_clash l p a b ≡ Some span
    → StartsAfter l p a b z
    → span.after ≤ℤ offset_of l (ticks_of l p) p.period a b z
starts_from l p a b span z e h =
    let P : Option Span → Type 0 = λ o. IsSomeAnd o (λ s. s.after ≤ℤ offset_of l (ticks_of l p) p.period a b z) in
    subst P e h

pub move_order_is : (l : LineData) (p : Timetable) (a b : MoveId) (span : Span) → 1 ≤ p.period
    → own_clash l p a b ≡ Some span
    → IsMoveOrder l p a b (move_order l p a b span)
move_order_is l p a b span some e =
    let s = start_tick l p a in
    let t = start_tick l p b in
    same_least (λ z. (span.after -ℤ (t -ℤ s)) ≤ℤ (z *ℤ pos p.period)) (StartsAfter l p a b) (move_order l p a b span)
    (λ z h. starts_at l p a b span z e (there span.after s t (z *ℤ pos p.period) h))
    (λ z h. back span.after s t (z *ℤ pos p.period) (starts_from l p a b span z e h)) (least_periods (span.after -ℤ (t -ℤ s)) p.period some)
  where
    there : (w s t u : ℤ) → (w -ℤ (t -ℤ s)) ≤ℤ u → w ≤ℤ ((t +ℤ u) -ℤ s)
    there w s t u h = omega (arith, ints)

    back : (w s t u : ℤ) → w ≤ℤ ((t +ℤ u) -ℤ s) → (w -ℤ (t -ℤ s)) ≤ℤ u
    back w s t u h = omega (arith, ints)

-- ---- what an order rules out

-- where a ends before b, q periods later, begins, and b, one period less later, before a begins, they never hold
-- together
pub never_together : (begin_a end_a begin_b end_b q z : ℤ) (n : ℕ) → end_a ≤ℤ (begin_b +ℤ q *ℤ pos n)
    → (end_b +ℤ (q -ℤ pos 1) *ℤ pos n) ≤ℤ begin_a
    → (begin_b +ℤ z *ℤ pos n) <ℤ end_a → begin_a <ℤ (end_b +ℤ z *ℤ pos n) → ⊥
never_together begin_a end_a begin_b end_b q z n first second one two =
    by_lt_z z q
    (λ lt.
    let before : z ≤ℤ (q -ℤ pos 1) = omega (arith, ints, lt) in
    early begin_a end_b (z *ℤ pos n) ((q -ℤ pos 1) *ℤ pos n) (times_mono z (q -ℤ pos 1) n before) second two)
    (λ ge. late end_a begin_b (z *ℤ pos n) (q *ℤ pos n) (times_mono q z n ge) first one)
  where
    early : (s e t u : ℤ) → t ≤ℤ u → (e +ℤ u) ≤ℤ s → s <ℤ (e +ℤ t) → ⊥
    early s e t u f g h = omega (arith, ints)

    late : (e s t u : ℤ) → u ≤ℤ t → e ≤ℤ (s +ℤ u) → (s +ℤ t) <ℤ e → ⊥
    late e s t u f g h = omega (arith, ints)
