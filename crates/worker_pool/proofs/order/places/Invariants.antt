use Rattle.std.proofs.Common.{◌≡◌, length}
use Rattle.worker_pool.specs.Pool.{placed}
use Rattle.worker_pool.proofs.order.places.Given as goal

abbrev pub invariant-loop-number : goal.invariant-loop-number
invariant-loop-number g l =
    (l.places.items ≡ placed l.count l.yielded) × (length l.places.items ≡ l.count)
