use Rattle.std.proofs.Common.{◌≡◌, None}
use Rattle.tick_machine.specs.Layout.{layout_of}
use Rattle.tick_machine.specs.Step as steps
use Rattle.track_log.specs.Following as following
use Rattle.track_log.proofs.positions.first_above.Given as goal

abbrev pub invariant-loop-h : goal.invariant-loop-h
invariant-loop-h l = steps.first l.h (following.above (layout_of l.line) (following.place l.at)) ≡ None
