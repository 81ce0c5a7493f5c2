use Rattle.std.proofs.Common.{◌∙◌, sym, refl, ◌≤ℤ◌, Some, pos, inl, inr, ⊎_elim, arith}
use Rattle.std.proofs.lemmas.Bool.{cases_lt, false≢true}
use Rattle.cycle_walk.specs.Climb.{least_kept}
use Rattle.cycle_walk.proofs.ClimbLemmas.{found_none, found_some, climb_floor, climb_shut, climb_at_cap, climb_raises, climb_capped, kept_later, raised, down_of, up_of, none_before, none_after, refutes_below, refutes_on}
use Rattle.cycle_walk.proofs.climbing.climb_within.Goals as goal

pub loop-period-init : goal.loop-period-init
loop-period-init c = (
  (c.requires.room, c.requires.links),
  omega arith,
  (c.args.cap, omega arith, refl),
  λ t a b. absurd (omega (arith, a, b)),
  λ t a b. absurd (omega (arith, a, b)),
  tt,
)

pub returns-in_default-clause-climb : goal.returns-in_default-clause-climb
returns-in_default-clause-climb c =
    let (fuel, enough, is) = c.loop-period.invariant.2 in
    let none = sym c.in_ok-found.ensures.walk ∙ c.in_default.is in
    sym (climb_floor c.args.s.now c.args.cap fuel c.loop-period.period c.loop-period.low c.loop-period-test.true enough none) ∙ is

pub returns-in_default-clause-least : goal.returns-in_default-clause-least
returns-in_default-clause-least c =
    let none = sym c.in_ok-found.ensures.walk ∙ c.in_default.is in
    (c.loop-period.invariant.1, c.loop-period-test.true, found_none c.args.s.now c.loop-period.period c.requires.valid none, c.loop-period.invariant.3)

pub returns-then-not-falls-clause-climb : goal.returns-then-not-falls-clause-climb
returns-then-not-falls-clause-climb c =
    let (fuel, enough, is) = c.loop-period.invariant.2 in
    let some = sym c.in_ok-found.ensures.walk ∙ c.in-Some.is in
    let up : pos 0 ≤ℤ c.in-Some.walk.q = up_of c.sums-sums.result c.in-Some.walk c.sums-sums.ensures (λ lt. false≢true (c.if-not-falls.ensures.1 lt)) in
    sym (climb_shut c.args.s.now c.args.cap fuel c.loop-period.period c.loop-period.low c.in-Some.walk c.loop-period-test.true enough some up) ∙ is

pub returns-then-not-falls-clause-least : goal.returns-then-not-falls-clause-least
returns-then-not-falls-clause-least c t low high f =
    let s = c.args.s.now in
    let period = c.loop-period.period in
    let walk = c.in-Some.walk in
    let some = sym c.in_ok-found.ensures.walk ∙ c.in-Some.is in
    let refuted = found_some s period walk c.requires.valid some in
    let up : pos 0 ≤ℤ walk.q = up_of c.sums-sums.result walk c.sums-sums.ensures (λ lt. false≢true (c.if-not-falls.ensures.1 lt)) in
    ⊎_elim (λ lt. c.loop-period.invariant.3 t low lt f) (λ le. none_after s period walk refuted up t le f) (cases_lt t period)

pub loop-period-smaller : goal.loop-period-smaller
loop-period-smaller c =
    let walk = c.in-Some.walk in
    let some = sym c.in_ok-found.ensures.walk ∙ c.in-Some.is in
    let refuted = found_some c.args.s.now c.loop-period.period walk c.requires.valid some in
    let down = down_of c.sums-sums.result walk c.sums-sums.ensures (c.if-not-falls.ensures.0 refl) in
    let later = kept_later walk c.loop-period.period refuted.1 down in
    let least = c.least_kept-period.ensures in
    let kept = raised c.sums-sums.result walk c.loop-period.period c.args.cap c.least_kept-period.result
    c.sums-sums.ensures refuted.1 down least.most least.below least.kept in
    omega (arith, kept, later, c.loop-period-test.true)

pub loop-period-preserved : goal.loop-period-preserved
loop-period-preserved c =
    let s = c.args.s.now in
    let period = c.loop-period.period in
    let walk = c.in-Some.walk in
    let some = sym c.in_ok-found.ensures.walk ∙ c.in-Some.is in
    let refuted = found_some s period walk c.requires.valid some in
    let down = down_of c.sums-sums.result walk c.sums-sums.ensures (c.if-not-falls.ensures.0 refl) in
    let later = kept_later walk period refuted.1 down in
    let least = c.least_kept-period.ensures in
    let kept = raised c.sums-sums.result walk period c.args.cap c.least_kept-period.result c.sums-sums.ensures refuted.1
    down least.most least.below least.kept in
    let (fuel, enough, is) = c.loop-period.invariant.2 in
    let next = climb_raises s c.args.cap fuel period c.loop-period.low walk _ c.loop-period-test.true enough some down later is in
    let now = climb_capped s c.args.cap next.0 (least_kept walk) c.least_kept-period.result (Some walk) _ kept next.1 next.2 in (
      (c.in_ok-found.ensures.room, c.in_ok-found.ensures.links),
      omega (arith, kept, later),
      (next.0, now.0, now.1),
      λ t low lt f. none_before s period walk refuted down t (omega (arith, lt, kept)) f,
      λ t low lt. refutes_below walk period t refuted.1 down (omega (arith, lt, kept)),
      refuted.0,
    )

pub returns-clause-climb : goal.returns-clause-climb
returns-clause-climb c =
    let (fuel, enough, is) = c.loop-period.invariant.2 in
    sym (climb_at_cap c.args.s.now c.args.cap fuel c.loop-period.period c.loop-period.low c.loop-period-test.false) ∙ is

pub returns-clause-least : goal.returns-clause-least
returns-clause-least c t low high = c.loop-period.invariant.3 t low (omega (arith, high, c.loop-period-test.false))

pub returns-in_default-clause-refuted : goal.returns-in_default-clause-refuted
returns-in_default-clause-refuted c = c.loop-period.invariant.4

pub returns-then-not-falls-clause-refuted : goal.returns-then-not-falls-clause-refuted
returns-then-not-falls-clause-refuted c t low high =
    let s = c.args.s.now in
    let period = c.loop-period.period in
    let walk = c.in-Some.walk in
    let refuted = found_some s period walk c.requires.valid (sym c.in_ok-found.ensures.walk ∙ c.in-Some.is) in
    let up : pos 0 ≤ℤ walk.q = up_of c.sums-sums.result walk c.sums-sums.ensures (λ lt. false≢true (c.if-not-falls.ensures.1 lt)) in
    ⊎_elim (λ lt. inl (c.loop-period.invariant.4 t low lt)) (λ le. inr (refutes_on walk.w walk.q period t refuted.1 up le)) (cases_lt t period)

pub returns-clause-refuted : goal.returns-clause-refuted
returns-clause-refuted c t low high = inl (c.loop-period.invariant.4 t low (omega (arith, high, c.loop-period-test.false)))

pub returns-in_default-clause-closed : goal.returns-in_default-clause-closed
returns-in_default-clause-closed c = c.loop-period.invariant.5

pub returns-then-not-falls-clause-closed : goal.returns-then-not-falls-clause-closed
returns-then-not-falls-clause-closed c =
    let refuted = found_some c.args.s.now c.loop-period.period c.in-Some.walk c.requires.valid (sym c.in_ok-found.ensures.walk ∙ c.in-Some.is) in
    (c.loop-period.invariant.5, refuted.0)

pub returns-clause-closed : goal.returns-clause-closed
returns-clause-closed c = (c.loop-period.invariant.5, tt)
