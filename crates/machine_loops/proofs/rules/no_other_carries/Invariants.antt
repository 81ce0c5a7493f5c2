use Rattle.std.proofs.Common.{ℕ, ◌<◌}
use Rattle.tick_machine.specs.Scene.{scene_of}
use Rattle.machine_loops.specs.RuleTests.{CarriesOnlyAt}
use Rattle.machine_loops.proofs.rules.no_other_carries.Given as goal

abbrev pub invariant-loop-j : goal.invariant-loop-j
invariant-loop-j l = (i : ℕ) → i < l.j → CarriesOnlyAt (scene_of l.frame) l.carrier l.h i
