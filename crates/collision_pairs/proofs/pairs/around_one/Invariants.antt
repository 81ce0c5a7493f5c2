use Rattle.std.proofs.Common.{◌≡◌, drop}
use Rattle.collision_pairs.specs.Clash.{around_one, joined}
use Rattle.collision_pairs.proofs.pairs.around_one.Given as goal

-- what was joined, with what is left to join, is the whole
abbrev pub invariant-loop-other : goal.invariant-loop-other
invariant-loop-other l = joined l.span (around_one l.room l.point (drop l.other-index l.others)) ≡ around_one l.room l.point l.others
