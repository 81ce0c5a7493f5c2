use Rattle.std.proofs.Common.{ℕ, sym, ap, ◌∙◌, arith}
use Rattle.tick_machine.specs.Points as points
use Rattle.tick_machine.specs.Step as steps
use Rattle.tick_machine.specs.Scene.{scene_of}
use Rattle.tick_machine.specs.Layout.{layout_of}
use Rattle.tick_machine.proofs.Passes.{first_at}
use Rattle.tick_machine.proofs.lowering.lower_in_all.Goals as goal

pub returns-in-Err-clause-breach : goal.returns-in-Err-clause-breach
returns-in-Err-clause-breach c =
    let l = layout_of c.args.line.now in
    let at : (h : ℕ) → _ = λ h. points.no_lowering l h (steps.each (points.lower_in l) h (scene_of c.args.frame.now)) in
    let here = ap (points.no_lowering l c.loop-h.h) (sym c.loop-h.invariant.scene) ∙ sym c.in-Err.ensures.breach in
    sym (first_at at c.args.line.now.hoists c.loop-h.h c.in-Err.breach (omega arith) c.loop-h.invariant.none here)
