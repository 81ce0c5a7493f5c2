use Rattle.std.proofs.Common.{refl, ap, List, ◌∙◌, ℕ, map, min, max, ◌≡◌, arith}
use Rattle.line_model.specs.declared.motion.Motion.{Motion}
use Rattle.line_model.specs.Motion.{duration, motion_between}
use Rattle.path_constraints.specs.Tanks.{there_and_back, least_of, greatest_of}
use Rattle.path_constraints.proofs.TankLemmas.{fold_first, fold_row}
use Rattle.path_constraints.proofs.times.times_below.Goals as goal

pub loop-i-init : goal.loop-i-init
loop-i-init c =
    let l = c.args.line.now in
    let k = c.args.m.step in
    let mb : ℕ → ℕ → Motion = λ i j. motion_between l k i j in
    let from = c.tanks_before-from in
    let to = c.tanks_after-to in
    let t = c.times_of-times in
    let least : (n : ℕ) → min n n ≡ n = λ n. omega arith in
    let greatest : (n : ℕ) → max n n ≡ n = λ n. omega arith in
    let lasts = ap duration c.motion_between.ensures.value in
    let comes_back = ap there_and_back c.motion_between.ensures.value in
    let some = from.ensures.some in
    let some' = to.ensures.some in
    let is = from.ensures.value in
    let is' = to.ensures.value in
    record {
      low = fold_first min least_of mb duration _ _ _ _ _ least (λ n ns. refl) some some' (t.ensures.low ∙ lasts) is is';
      high = fold_first max greatest_of mb duration _ _ _ _ _ greatest (λ n ns. refl) some some' (t.ensures.high ∙ lasts) is is';
      back = fold_first min least_of mb there_and_back _ _ _ _ _ least (λ n ns. refl) some some' (t.ensures.back ∙ comes_back) is is';
      small = t.ensures.small;
    }

pub loop-i-preserved : goal.loop-i-preserved
loop-i-preserved c =
    let l = c.args.line.now in
    let k = c.args.m.step in
    let to = c.tanks_after-to.result.now in
    let from = c.tanks_before-from.result.now in
    let row : ℕ → List Motion = λ i. map (λ (j : ℕ). motion_between l k i j) to in
    let lt = c.loop-i-test.true in
    let w = c.widened_from-times in
    let inv = c.loop-i.invariant in
    record {
      low = fold_row min duration row from c.loop-i.i _ 0 _ _ _ lt refl w.ensures.low inv.low;
      high = fold_row max duration row from c.loop-i.i _ 0 _ _ _ lt refl w.ensures.high inv.high;
      back = fold_row min there_and_back row from c.loop-i.i _ 0 _ _ _ lt refl w.ensures.back inv.back;
      small = w.ensures.small;
    }
