use Rattle.std.proofs.Common.{ℕ, ◌<◌, length}
use Rattle.tick_machine.specs.Scene.{scene_of}
use Rattle.machine_loops.specs.RuleTests.{RestsAlone}
use Rattle.machine_loops.proofs.rules.rest_alone.Given as goal

abbrev pub invariant-loop-i : goal.invariant-loop-i
invariant-loop-i l = (j : ℕ) → j < l.i → RestsAlone (scene_of l.frame) (length l.frame.carry.items) (length l.frame.hold.items) j
