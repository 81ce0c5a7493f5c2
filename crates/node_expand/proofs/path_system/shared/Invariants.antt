use Rattle.std.proofs.Common.{◌≡◌, take}
use Rattle.node_expand.proofs.path_system.shared.Given as goal

-- what was compared is the same
abbrev pub invariant-loop-i : goal.invariant-loop-i
invariant-loop-i l = take l.i l.kept ≡ take l.i l.path
