use Rattle.startup_rundown.proofs.LogHolds as law
use Rattle.startup_rundown.proofs.laws.log_is_whole.Goals as goal

pub returns : goal.returns
returns c = law.log_is_whole
