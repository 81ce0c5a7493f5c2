use Rattle.std.proofs.Common.{arith, ap}
use Rattle.std.specs.Prelude.{unwrap_or}
use Rattle.hoist_base.specs.declared.stage.Stage.{Stage}
use Rattle.path_constraints.proofs.ArcLemmas.{max_small, stage_read}
use Rattle.path_constraints.proofs.arcs.greatest_dwell.Goals as goal

pub returns-clause-small : goal.returns-clause-small
returns-clause-small c =
    let l = c.args.line.now in
    let k = c.args.number in
    let read = stage_read l k c.index-stages-number.result c.stages.result.now c.stages.ensures.value (omega (arith, c.requires.0, c.requires.1)) in
    let e = ap (λ (s : Stage). unwrap_or s.max 0) read in
    omega (arith, e, c.unwrap_or.ensures, max_small l k c.stages.ensures.valid c.requires.0 c.requires.1)
