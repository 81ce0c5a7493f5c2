use Rattle.std.proofs.Common.{◌≡◌, ℕ, ◌+◌, ◌-◌, ◌≤◌, ◌<◌, length, get_or}
use Rattle.longest_path.specs.System.{arc}
use Rattle.cycle_walk.specs.Links.{IsNextInto}
use Rattle.cycle_walk.proofs.links.link.Given as goal

abbrev pub invariant-loop-i : goal.invariant-loop-i
invariant-loop-i l =
    let count = length l.s.arcs in
    (length l.firsts ≡ l.s.nodes)
    × (length l.nexts ≡ count)
    × ((j : ℕ) → j < l.s.nodes → IsNextInto l.s (count - l.i) j (get_or l.firsts j 0))
    × ((k : ℕ) → count - l.i ≤ k → k < count → IsNextInto l.s (k + 1) (arc l.s k).to (get_or l.nexts k 0))
