use Rattle.std.proofs.Common.{◌+◌, arith, ap}
use Rattle.hoist_base.specs.declared.stage.Stage.{Stage}
use Rattle.path_constraints.proofs.ArcLemmas.{lower_small, stage_read}
use Rattle.path_constraints.proofs.holds.lower_behind.Goals as goal

pub returns-clause-small : goal.returns-clause-small
returns-clause-small c =
    let l = c.args.line.now in
    let read = stage_read l (c.args.step + 1) c.index-stages-step.result c.stages.result.now c.stages.ensures.value c.requires in
    omega (arith, ap (λ (s : Stage). s.lower) read, lower_small l c.args.step c.stages.ensures.valid c.requires)
