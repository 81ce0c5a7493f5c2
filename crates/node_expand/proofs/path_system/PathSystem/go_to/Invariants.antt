use Rattle.std.proofs.Common.{take, ◌≤◌, length}
use Rattle.node_expand.specs.PathSystems.{IsAt}
use Rattle.node_expand.proofs.path_system.PathSystem.go_to.Given as goal

-- it is at the first decisions of the path
abbrev pub invariant-loop-i : goal.invariant-loop-i
invariant-loop-i l = IsAt l.line (take l.i l.path) l.self × (l.i ≤ length l.path)
