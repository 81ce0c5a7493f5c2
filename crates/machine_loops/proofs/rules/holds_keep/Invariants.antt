use Rattle.std.proofs.Common.{ℕ, ◌<◌}
use Rattle.tick_machine.specs.Layout.{layout_of}
use Rattle.tick_machine.specs.Scene.{scene_of}
use Rattle.machine_loops.specs.RuleTests.{HoldKeeps}
use Rattle.machine_loops.proofs.rules.holds_keep.Given as goal

abbrev pub invariant-loop-tank : goal.invariant-loop-tank
invariant-loop-tank l = (j : ℕ) → j < l.tank → HoldKeeps (layout_of l.line) (scene_of l.frame) j
