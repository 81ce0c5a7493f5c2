use Rattle.std.proofs.Common.{ℕ, ◌<◌}
use Rattle.tick_machine.specs.Layout.{layout_of}
use Rattle.tick_machine.specs.Scene.{scene_of}
use Rattle.machine_loops.specs.RuleTests.{CarryKeeps}
use Rattle.machine_loops.proofs.rules.carries_keep.Given as goal

abbrev pub invariant-loop-h : goal.invariant-loop-h
invariant-loop-h l = (j : ℕ) → j < l.h → CarryKeeps (layout_of l.line) (scene_of l.frame) j
