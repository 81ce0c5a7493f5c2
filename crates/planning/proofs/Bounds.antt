-- How late the ticks of a solved path can be: from 0 on, and few periods and moves later.
use Rattle.std.proofs.Common.{◌≡◌, ℕ, zero, suc, ◌+◌, ◌-◌, ◌*◌, ◌<◌, ◌≤◌, List, ap, subst, ℤ, pos, ◌+ℤ◌, ◌≤ℤ◌, arith}
use Rattle.std.proofs.lemmas.Int.{ints}
use Rattle.hoist_base.specs.LineData.{LineData, stage, move_number, IsMove}
use Rattle.hoist_base.specs.Valid.{IsLine}
use Rattle.line_model.specs.Motion.{duration}
use Rattle.line_model.specs.Timetable.{Timetable, motion}
use Rattle.choice_tree.specs.declared.question.Decision.{Decision}
use Rattle.planning.proofs.Choices.{Settled, lasts_little}
use Rattle.planning.proofs.Rows.{Timed, least_row, entry_row, around_row, visit_row}

-- the carriers enter one after another
pub carriers_rise : (l : LineData) (path : List Decision) (ticks : ℕ → ℤ) (period c n : ℕ) → Timed l path ticks period
    → c + n < l.degree
    → ticks (move_number l c 0) ≤ℤ ticks (move_number l (c + n) 0)
carriers_rise l path ticks period c zero t lt =
    let e : ticks (move_number l (c + 0) 0) ≡ ticks (move_number l c 0) = ap (λ (x : ℕ). ticks (move_number l x 0)) (omega arith) in
    omega (arith, ints, e)
carriers_rise l path ticks period c (suc n) t lt =
    let e : ticks (move_number l (c + suc n) 0) ≡ ticks (move_number l (c + n + 1) 0) = ap (λ (x : ℕ). ticks (move_number l x 0)) (omega arith) in
    later (ticks (move_number l c 0)) (ticks (move_number l (c + n) 0)) (ticks (move_number l (c + n + 1) 0)) (ticks (move_number l (c + suc n) 0))
    (l.load + (stage l 0).lift) e
    (carriers_rise l path ticks period c n t (omega (arith, lt))) (entry_row l path ticks period (c + n) t (omega (arith, lt)))
  where
    later : (a b x y : ℤ) (w : ℕ) → y ≡ x → a ≤ℤ b → (b +ℤ pos w) ≤ℤ x → a ≤ℤ y
    later a b x y w e f g = omega (arith, ints, e, f, g)

-- a carrier's moves start one after another, and not long after one another
pub steps_rise : (l : LineData) (path : List Decision) (p : Timetable) (ticks : ℕ → ℤ) (period c k : ℕ) → IsLine l
    → Settled l path p
    → Timed l path ticks period → period ≤ 20000 → IsMove l c k
    → (ticks (move_number l c 0) ≤ℤ ticks (move_number l c k)) × (ticks (move_number l c k) ≤ℤ (ticks (move_number l c 0) +ℤ pos (k * 22000)))
steps_rise l path p ticks period c zero line s t small move = (omega (arith, ints), omega (arith, ints))
steps_rise l path p ticks period c (suc k) line s t small move =
    let e : ticks (move_number l c (suc k)) ≡ ticks (move_number l c (k + 1)) = ap (λ (j : ℕ). ticks (move_number l c j)) (omega arith) in
    let before : IsMove l c k = (move.0, omega (arith, move.1)) in
    let here : IsMove l c (k + 1) = (move.0, omega (arith, move.1)) in
    let r = steps_rise l path p ticks period c k line s t small before in
    let first : ℤ = ticks (move_number l c 0) in (
      later first (ticks (move_number l c k)) (ticks (move_number l c (k + 1))) (ticks (move_number l c (suc k)))
          (duration (motion l p c k) + (stage l (k + 1)).min) e r.0 (least_row l path p ticks period c k s t here),
      sooner first (ticks (move_number l c k)) (ticks (move_number l c (k + 1))) (ticks (move_number l c (suc k)))
          ((stage l (k + 1)).lift + (stage l (k + 1)).lower) (duration (motion l p c k)) period k e r.1
          (visit_row l path p ticks period c k s t here) (lasts_little l p c k line s.routed before) small,
    )
  where
    later : (a b x y : ℤ) (w : ℕ) → y ≡ x → a ≤ℤ b → (b +ℤ pos w) ≤ℤ x → a ≤ℤ y
    later a b x y w e f g = omega (arith, ints, e, f, g)

    sooner : (a b x y : ℤ) (w d period k : ℕ) → y ≡ x → b ≤ℤ (a +ℤ pos (k * 22000))
        → (x +ℤ pos w) ≤ℤ (b +ℤ pos (d + period)) → d ≤ 2000 → period ≤ 20000
        → y ≤ℤ (a +ℤ pos (suc k * 22000))
    sooner a b x y w d period k e f g le le' = omega (arith, ints, e, f, g)

-- with 0 at the first move
pub ticks_small : (l : LineData) (path : List Decision) (p : Timetable) (ticks : ℕ → ℤ) (period c k : ℕ) → IsLine l
    → Settled l path p
    → Timed l path ticks period → period ≤ 20000 → ticks 0 ≡ pos 0 → IsMove l c k
    → (pos 0 ≤ℤ ticks (move_number l c k)) × (ticks (move_number l c k) ≤ℤ pos 1000000)
ticks_small l path p ticks period c k line s t small origin move =
    let last : ℕ = l.degree - 1 in
    let here : 0 + c ≡ c = omega arith in
    let there : c + (last - c) ≡ last = omega (arith, move.0) in
    let A : ℕ → Type 0 = λ x. ticks (move_number l 0 0) ≤ℤ ticks (move_number l x 0) in
    let B : ℕ → Type 0 = λ x. ticks (move_number l c 0) ≤ℤ ticks (move_number l x 0) in
    let zero_is : ticks (move_number l 0 0) ≡ ticks 0 = ap ticks (omega arith) in
    let above = subst A here (carriers_rise l path ticks period 0 c t (omega (arith, move.0))) in
    let below = subst B there (carriers_rise l path ticks period c (last - c) t (omega (arith, move.0))) in
    let around = around_row l path ticks period last t (omega (arith, move.0)) in
    let steps = steps_rise l path p ticks period c k line s t small move in
    within (ticks (move_number l 0 0)) (ticks 0) (ticks (move_number l c 0)) (ticks (move_number l last 0)) (ticks (move_number l c k))
    (l.load + (stage l 0).lift) period k zero_is origin above below around steps.0 steps.1 small
    (omega (arith, move.1, line.limits.stages.1))
  where
    within : (first zero' a z x : ℤ) (w period k : ℕ) → first ≡ zero' → zero' ≡ pos 0 → first ≤ℤ a → a ≤ℤ z
        → (z +ℤ pos w) ≤ℤ (zero' +ℤ pos period) → a ≤ℤ x
        → x ≤ℤ (a +ℤ pos (k * 22000)) → period ≤ 20000 → k ≤ 30
        → (pos 0 ≤ℤ x) × (x ≤ℤ pos 1000000)
    within first zero' a z x w period k e e' f g h i j le le' = (omega (arith, ints), omega (arith, ints))
