use Rattle.hoist_cli.proofs.Completed as lemmas
use Rattle.hoist_cli.proofs.laws.completeness.Goals as goal

pub returns : goal.returns
returns c = lemmas.completeness
