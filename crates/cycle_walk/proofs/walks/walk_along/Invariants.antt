use Rattle.std.proofs.Common.{◌≡◌, ◌≤◌, ◌-◌, ◌*◌, ◌+ℤ◌, ◌++◌}
use Rattle.std.specs.Prelude.{slice_index, unsigned_abs}
use Rattle.longest_path.specs.System.{sum_w, sum_q}
use Rattle.cycle_walk.specs.Closed.{back_to}
use Rattle.cycle_walk.proofs.walks.walk_along.Given as goal

abbrev pub invariant-loop-t : goal.invariant-loop-t
invariant-loop-t l =
    let rest = back_to (slice_index l.back) l.first (l.t - l.first) in
    let all = back_to (slice_index l.back) l.first (l.end - l.first) in
    (l.first ≤ l.t) × (l.t ≤ l.end)
    × (l.arcs.items ++ rest ≡ all)
    × (l.w +ℤ sum_w l.s rest ≡ sum_w l.s all)
    × (l.q +ℤ sum_q l.s rest ≡ sum_q l.s all)
    × (unsigned_abs l.w ≤ 10000000 * (l.end - l.t))
    × (unsigned_abs l.q ≤ 1000000000 * (l.end - l.t))

abbrev pub decreases-loop-t : goal.decreases-loop-t
decreases-loop-t l = l.t
