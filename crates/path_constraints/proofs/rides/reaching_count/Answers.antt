use Rattle.std.proofs.Common.{arith, rules, ℕ, Bool}
use Rattle.path_constraints.specs.Hoists.{reaches_motion}
use Rattle.path_constraints.proofs.RideLemmas.{counted_yes, counted_no, reaches_yes, reaches_no}
use Rattle.path_constraints.proofs.rides.reaching_count.Goals.{then-reaches, else-reaches}
use Rattle.path_constraints.proofs.rides.reaching_count.Goals as goal

pub loop-h-preserved : goal.loop-h-preserved
loop-h-preserved c =
    let l = c.args.line.now in
    let a = c.args.a in
    let f : ℕ → Bool = λ h. reaches_motion l h a in
    let h = c.loop-h.h in
    let inv = c.loop-h.invariant in
    elim c.if-reaches.branch [
      | then-reaches w ↦ (counted_yes f h _ _ inv.0 (reaches_yes l h a (c.reaches.ensures.0 w.if-reaches.true)) w.count-is, omega (arith, w.count-is, inv.1))
      | else-reaches w ↦ (counted_no f h _ _ inv.0 (reaches_no l h a (λ r. search rules)) w.count-is, omega (arith, w.count-is, inv.1))
    ]
