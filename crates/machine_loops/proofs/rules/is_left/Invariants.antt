use Rattle.std.proofs.Common.{ℕ, ◌<◌}
use Rattle.tick_machine.specs.Scene.{scene_of}
use Rattle.machine_loops.specs.RuleTests.{Leaves}
use Rattle.machine_loops.proofs.rules.is_left.Given as goal

abbrev pub invariant-loop-h : goal.invariant-loop-h
invariant-loop-h l = (j : ℕ) → j < l.h → Leaves (scene_of l.frame) l.tank l.carrier l.step j → ⊥
