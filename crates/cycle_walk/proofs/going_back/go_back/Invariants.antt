use Rattle.std.proofs.Common.{◌-◌}
use Rattle.cycle_walk.proofs.BackLemmas.{IsWayBack}
use Rattle.cycle_walk.proofs.going_back.go_back.Given as goal

abbrev pub invariant-loop-seen : goal.invariant-loop-seen
invariant-loop-seen l = IsWayBack l.s l.period l.start l.t l.j l.back l.seen

abbrev pub decreases-loop-seen : goal.decreases-loop-seen
decreases-loop-seen l = l.s.nodes - l.t
