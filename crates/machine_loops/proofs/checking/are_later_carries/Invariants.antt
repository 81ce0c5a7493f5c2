use Rattle.std.proofs.Common.{ℕ, ◌<◌}
use Rattle.tick_machine.specs.Scene.{scene_of}
use Rattle.machine_loops.specs.RuleTests.{CarryIsLater}
use Rattle.machine_loops.proofs.checking.are_later_carries.Given as goal

abbrev pub invariant-loop-h : goal.invariant-loop-h
invariant-loop-h l = (j : ℕ) → j < l.h → CarryIsLater l.later (scene_of l.new) (scene_of l.old) j
