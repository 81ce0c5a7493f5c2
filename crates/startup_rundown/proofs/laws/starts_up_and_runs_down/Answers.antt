use Rattle.startup_rundown.proofs.RunLaw as law
use Rattle.startup_rundown.proofs.laws.starts_up_and_runs_down.Goals as goal

pub returns : goal.returns
returns c = law.starts_up_and_runs_down
