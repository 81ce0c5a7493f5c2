use Rattle.hoist_cli.proofs.Workers.{workers_do_not_matter}
use Rattle.hoist_cli.proofs.laws.workers_do_not_matter.Goals as goal

pub returns : goal.returns
returns c = workers_do_not_matter
