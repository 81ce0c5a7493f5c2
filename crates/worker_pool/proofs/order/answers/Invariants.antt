use Rattle.std.proofs.Common.{◌≡◌, map, Some}
use Rattle.worker_pool.proofs.order.answers.Given as goal

abbrev pub invariant-loop-place : goal.invariant-loop-place
invariant-loop-place g l = map Some l.outs.items ≡ l.yielded
