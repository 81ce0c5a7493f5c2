use Rattle.worker_pool.proofs.Machine.{any_order}
use Rattle.worker_pool.proofs.laws.any_order.Goals as goal

pub returns : goal.returns
returns g c = any_order
