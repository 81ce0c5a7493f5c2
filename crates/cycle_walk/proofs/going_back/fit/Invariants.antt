use Rattle.std.proofs.Common.{◌≡◌, ℕ, ◌-◌, ◌≤◌, ◌<◌, false, length}
use Rattle.longest_path.specs.System.{arc}
use Rattle.longest_path.specs.Rounds.{weights_at}
use Rattle.cycle_walk.specs.Closed.{fits}
use Rattle.cycle_walk.proofs.going_back.fit.Given as goal

abbrev pub invariant-loop-k : goal.invariant-loop-k
invariant-loop-k l =
    (l.k ≤ length l.s.arcs)
    × (l.k < length l.s.arcs → (arc l.s l.k).to ≡ l.j)
    × ((x : ℕ) → x < l.k → fits l.s (weights_at l.s l.period) l.m l.j x ≡ false)

abbrev pub decreases-loop-k : goal.decreases-loop-k
decreases-loop-k l = length l.s.arcs - l.k
