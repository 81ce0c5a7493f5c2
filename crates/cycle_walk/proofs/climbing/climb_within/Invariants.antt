use Rattle.std.proofs.Common.{◌≡◌, ℕ, ◌+◌, ◌-◌, ◌<◌, ◌≤◌, IfSome}
use Rattle.cycle_walk.specs.Closed.{IsFeasible, IsClosedWalk}
use Rattle.cycle_walk.specs.Climb.{climb_from, climbed, Gives}
use Rattle.longest_path.specs.Room.{HasRoom}
use Rattle.cycle_walk.specs.Links.{AreLinks}
use Rattle.cycle_walk.proofs.climbing.climb_within.Given as goal

abbrev pub invariant-loop-period : goal.invariant-loop-period
invariant-loop-period l =
    (HasRoom l.s l.room × AreLinks l.s l.room.firsts.items l.room.nexts.items)
    × (1 ≤ l.period)
    × ((fuel : ℕ) × (l.cap ≤ l.period + fuel) × (climb_from l.s l.cap fuel l.period l.low ≡ climbed l.s l.cap))
    × ((t : ℕ) → 1 ≤ t → t < l.period → IsFeasible l.s t → ⊥)
    × ((t : ℕ) → 1 ≤ t → t < l.period → Gives l.low t)
    × IfSome l.low (IsClosedWalk l.s)

abbrev pub decreases-loop-period : goal.decreases-loop-period
decreases-loop-period l = l.cap - l.period
