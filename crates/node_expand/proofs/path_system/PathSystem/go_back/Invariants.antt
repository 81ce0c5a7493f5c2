use Rattle.std.proofs.Common.{length}
use Rattle.node_expand.specs.PathSystems.{IsPathSystem, IsPrefix}
use Rattle.node_expand.proofs.path_system.PathSystem.go_back.Given as goal

abbrev pub invariant-loop-self : goal.invariant-loop-self
invariant-loop-self l = IsPathSystem l.line l.self × IsPrefix l.self.path.items l.initial.self.path.items

abbrev pub decreases-loop-self : goal.decreases-loop-self
decreases-loop-self l = length l.self.path.items
