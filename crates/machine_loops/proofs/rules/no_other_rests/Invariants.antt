use Rattle.std.proofs.Common.{ℕ, ◌<◌}
use Rattle.tick_machine.specs.Scene.{scene_of}
use Rattle.machine_loops.specs.RuleTests.{RestsOnlyAt}
use Rattle.machine_loops.proofs.rules.no_other_rests.Given as goal

abbrev pub invariant-loop-j : goal.invariant-loop-j
invariant-loop-j l = (n : ℕ) → n < l.j → RestsOnlyAt (scene_of l.frame) l.carrier l.i n
