use Rattle.std.proofs.Common.{length}
use Rattle.tick_machine.specs.Scene.{IsSized}
use Rattle.machine_loops.specs.Lists.{scenes, commands}
use Rattle.machine_loops.proofs.CheckLemmas.{Going}
use Rattle.machine_loops.proofs.checking.first_stray.Given as goal

abbrev pub invariant-loop-i : goal.invariant-loop-i
invariant-loop-i l = IsSized l.line l.next × Going l.line (length l.frames) (scenes l.frames) (commands l.orders) l.i
