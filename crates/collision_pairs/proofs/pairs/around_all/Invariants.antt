use Rattle.std.proofs.Common.{◌≡◌, drop}
use Rattle.collision_pairs.specs.Clash.{around_all, joined}
use Rattle.collision_pairs.proofs.pairs.around_all.Given as goal

-- what was joined, with what is left to join, is the whole
abbrev pub invariant-loop-point : goal.invariant-loop-point
invariant-loop-point l = joined l.span (around_all l.room (drop l.point-index l.points) l.others) ≡ around_all l.room l.points l.others
