use Rattle.std.proofs.Common.{ℕ, ◌<◌, length}
use Rattle.tick_machine.specs.Scene.{scene_of}
use Rattle.machine_loops.specs.RuleTests.{CarriesAlone}
use Rattle.machine_loops.proofs.rules.carry_alone.Given as goal

abbrev pub invariant-loop-h : goal.invariant-loop-h
invariant-loop-h l = (j : ℕ) → j < l.h → CarriesAlone (scene_of l.frame) (length l.frame.carry.items) j
