use Rattle.std.proofs.Common.{arith, sym, ◌∙◌}
use Rattle.path_constraints.proofs.PlaceLemmas.{max_yes, max_no}
use Rattle.path_constraints.proofs.places.maxes_before.Goals.{then-has_max, else-has_max}
use Rattle.path_constraints.proofs.places.maxes_before.Goals as goal

pub loop-k-preserved : goal.loop-k-preserved
loop-k-preserved c =
    let l = c.args.line.now in
    let k = c.loop-k.k in
    let inv = c.loop-k.invariant in
    elim c.if-has_max.branch [
      | then-has_max w ↦ (
        omega (arith, w.count-is, inv.0, max_yes l k c.loop-k.auto.k (sym c.has_max.ensures.value ∙ w.if-has_max.true)),
        omega
            (arith, w.count-is, inv.1),
      )
      | else-has_max w ↦ (
        omega (arith, w.count-is, inv.0, max_no l k c.loop-k.auto.k (sym c.has_max.ensures.value ∙ w.if-has_max.false)),
        omega
            (arith, w.count-is, inv.1),
      )
    ]
