use Rattle.std.proofs.Common.{◌≡◌, ◌+◌, ◌≤◌, ℕ, length}
use Rattle.claim_board.specs.Tidy.{times, once_below}
use Rattle.worker_pool.specs.Pool.{Keeps}
use Rattle.worker_pool.proofs.worker.work_alone.Given as goal

abbrev pub invariant-loop-number : goal.invariant-loop-number
invariant-loop-number g l =
    (l.seat.board ≡ l.board) × (l.seat.left + l.seat.used ≡ length l.jobs + 1) × (l.seat.used ≡ length l.seat.list)
    × ((x : ℕ) → times x l.seat.list ≤ once_below (length l.jobs) x)
    × Keeps (g.W.Work.answers l.work) l.jobs l.seat.list l.kept.items
    × g.W.Work.serves l.work l.room

abbrev pub decreases-loop-number : goal.decreases-loop-number
decreases-loop-number g l = l.seat.left
