use Rattle.std.proofs.Common.{ℕ, ◌<◌}
use Rattle.tick_machine.specs.Scene.{scene_of}
use Rattle.machine_loops.specs.RuleTests.{Comes}
use Rattle.machine_loops.proofs.rules.is_reached.Given as goal

abbrev pub invariant-loop-h : goal.invariant-loop-h
invariant-loop-h l = (j : ℕ) → j < l.h → Comes (scene_of l.frame) l.tank l.carrier l.stage j → ⊥
