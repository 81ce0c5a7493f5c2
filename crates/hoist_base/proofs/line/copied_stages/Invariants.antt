use Rattle.std.proofs.Common.{◌≡◌, take}
use Rattle.hoist_base.proofs.line.copied_stages.Given as goal

abbrev pub invariant-loop-stage : goal.invariant-loop-stage
invariant-loop-stage l = l.copy.items ≡ take l.stage-index l.stages
