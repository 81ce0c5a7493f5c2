-- What crates above use of clashes: `clash_of` by the order of the hoists, and its laws.
use Rattle.std.proofs.Common.{◌≡◌, ℕ, ◌+◌, ◌-◌, ◌*◌, ◌<◌, ◌≤◌, Bool, true, false, cond, ⊎_elim, ap, refl, sym, ◌∙◌, subst, Option, Some, None, IfSome, arith}
use Rattle.std.proofs.lemmas.Bool.{cases_lt, eq-eqb, ne_eqb, lt-ltb, le-ltb}
use Rattle.std.proofs.lemmas.Int.{ints}
use Rattle.std.proofs.lemmas.Nat.{mul-le}
use Rattle.line_model.specs.declared.motion.Motion.{Motion}
use Rattle.line_model.specs.Motion.{IsMotion, duration, place}
use Rattle.hoist_base.specs.LineData.{LineData}
use Rattle.hoist_base.specs.Valid.{IsLine}
use Rattle.collision_pairs.specs.declared.span.Span.{Span}
use Rattle.collision_pairs.specs.Forbidden.{IsForbidden, ComeTooNear, IsSpanOf}
use Rattle.collision_pairs.specs.Clash.{corners, around_all, once_span, turned_answer, clash_of, IsTight}
use Rattle.collision_pairs.specs.Laws.{HasNoHoles, TurnsRound, AreTight}
use Rattle.collision_pairs.proofs.TickLemmas.{no_hill}
use Rattle.collision_pairs.proofs.HullLemmas.{IsHullOf, InBox, hull_spreads, span_of_hull, tight_hull}
use Rattle.collision_pairs.proofs.CornerLemmas.{IsTickOf, all_hull}
use Rattle.collision_pairs.proofs.MotionLemmas.{goes_one_way, goes_one_way_itself, lasts, stays_low, corners_lie_on, corners_within, late_top, early_top, early_bottom, late_bottom}
use Rattle.collision_pairs.proofs.ForbiddenLemmas.{span_once, span_above, span_below}

by_true : {X : Type 0} (b : Bool) (x y : X) → b ≡ true → cond b x y ≡ x
by_true b x y e = ap (λ (t : Bool). cond t x y) e

by_false : {X : Type 0} (b : Bool) (x y : X) → b ≡ false → cond b x y ≡ y
by_false b x y e = ap (λ (t : Bool). cond t x y) e

-- on one hoist
pub clash_once : (l : LineData) (a : Motion) (ha : ℕ) (b : Motion) (hb : ℕ) → ha ≡ hb
    → clash_of l a ha b hb ≡ Some (once_span a b)
unfolding clash_of
clash_once l a ha b hb e = by_true _ _ _ (eq-eqb ha hb e)

-- the first motion on the lower hoist
pub clash_above : (l : LineData) (a : Motion) (ha : ℕ) (b : Motion) (hb : ℕ) → ha < hb
    → clash_of l a ha b hb ≡ around_all ((hb - ha) * l.gap) (corners a) (corners b)
unfolding clash_of
clash_above l a ha b hb lt = by_false _ _ _ (ne_eqb ha hb (λ e. omega (arith, e))) ∙ by_true _ _ _ (lt-ltb ha hb lt)

-- the first motion on the upper hoist
pub clash_below : (l : LineData) (a : Motion) (ha : ℕ) (b : Motion) (hb : ℕ) → hb < ha
    → clash_of l a ha b hb ≡ turned_answer (around_all ((ha - hb) * l.gap) (corners b) (corners a))
unfolding clash_of
clash_below l a ha b hb lt = by_false _ _ _ (ne_eqb ha hb (λ e. omega (arith, e))) ∙ by_false _ _ _ (le-ltb ha hb (omega arith))

-- what the corners forbid is what all ticks forbid
box_hull : (a b : Motion) (room : ℕ)
    → IsHullOf (λ u. place a u + room) (place b) (InBox (duration a) (duration b)) (around_all room (corners a) (corners b))
box_hull a b room =
    hull_spreads (λ u. place a u + room) (place b) (IsTickOf (corners a)) (IsTickOf (corners b)) (duration a)
    (duration b) (around_all room (corners a) (corners b))
    (corners_within a) (corners_within b)
    (late_top a room) (early_top a room) (early_bottom b) (late_bottom b)
    (all_hull (place a) (place b) room (corners a) (corners b) (corners_lie_on a) (corners_lie_on b))

near_span : (a b : Motion) (room : ℕ) → IsSpanOf (around_all room (corners a) (corners b)) (ComeTooNear a b room)
near_span a b room =
    span_of_hull (λ u. place a u + room) (place b) (duration a) (duration b) (around_all room (corners a) (corners b))
    (goes_one_way a room) (no_hill (place b) (goes_one_way_itself b)) (box_hull a b room)

pub has_no_holes : HasNoHoles
has_no_holes l a ha b hb p q =
    let Holds : Option Span → Type 0 = λ x. IsSpanOf x (IsForbidden l a ha b hb) in
    ⊎_elim
    (λ lt. subst Holds (sym (clash_above l a ha b hb lt)) (span_above l a ha b hb _ lt (near_span a b ((hb - ha) * l.gap))))
    (λ le.
    ⊎_elim
    (λ gt. subst Holds (sym (clash_below l a ha b hb gt)) (span_below l a ha b hb _ gt (near_span b a ((ha - hb) * l.gap))))
    (λ ge. subst Holds (sym (clash_once l a ha b hb (omega arith))) (span_once l a ha b hb p q (omega arith)))
    (cases_lt hb ha))
    (cases_lt ha hb)

turned_twice : (x : Option Span) → turned_answer (turned_answer x) ≡ x
turned_twice None = refl
turned_twice (Some s) = refl

pub turns_round : TurnsRound
turns_round l a ha b hb =
    ⊎_elim
    (λ lt. clash_below l b hb a ha lt ∙ ap turned_answer (sym (clash_above l a ha b hb lt)))
    (λ le.
    ⊎_elim
    (λ gt. clash_above l b hb a ha gt ∙ sym (turned_twice _) ∙ ap turned_answer (sym (clash_below l a ha b hb gt)))
    (λ ge. clash_once l b hb a ha (omega arith) ∙ ap turned_answer (sym (clash_once l a ha b hb (omega arith))))
    (cases_lt hb ha))
    (cases_lt ha hb)

-- the room between two hoists of a line
small_room : (l : LineData) (h k : ℕ) → IsLine l → h < l.hoists → k < l.hoists → (k - h) * l.gap ≤ 500
small_room l h k line p q =
    let few : k - h ≤ 5 = omega (arith, line.limits.hoists.1) in
    omega (arith, mul-le (k - h) l.gap 5 l.gap few (omega arith), line.limits.gap.1)

tight_near : (a b : Motion) (room : ℕ) → IsMotion a → IsMotion b → room ≤ 500
    → IfSome (around_all room (corners a) (corners b)) IsTight
tight_near a b room p q small =
    tight_hull (λ u. place a u + room) (place b) (duration a) (duration b) (around_all room (corners a) (corners b))
    (lasts a p).1 (lasts b q).1 (λ u. omega (arith, stays_low a u p)) (λ v. stays_low b v q) (box_hull a b room)

tight_turned : (x : Option Span) → IfSome x IsTight → IfSome (turned_answer x) IsTight
tight_turned None h = tt
tight_turned (Some s) h = record { after = h.before; before = h.after; holds = omega (arith, ints, h.holds) }

tight_once : (a b : Motion) → IsMotion a → IsMotion b → IsTight (once_span a b)
tight_once a b p q = record {
  after = omega (arith, ints, p.to, q.from, lasts a p);
  before = omega (arith, ints, p.from, q.to, lasts b q);
  holds = omega (arith, ints, lasts a p, lasts b q);
}

pub are_tight : AreTight
are_tight l a ha b hb line p q there_a there_b =
    let Holds : Option Span → Type 0 = λ x. IfSome x IsTight in
    ⊎_elim
    (λ lt. subst Holds (sym (clash_above l a ha b hb lt)) (tight_near a b ((hb - ha) * l.gap) p q (small_room l ha hb line there_a there_b)))
    (λ le.
    ⊎_elim
    (λ gt. subst Holds (sym (clash_below l a ha b hb gt)) (tight_turned _ (tight_near b a ((ha - hb) * l.gap) q p (small_room l hb ha line there_b there_a))))
    (λ ge. subst Holds (sym (clash_once l a ha b hb (omega arith))) (tight_once a b p q))
    (cases_lt hb ha))
    (cases_lt ha hb)
