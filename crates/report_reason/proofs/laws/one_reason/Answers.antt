use Rattle.report_reason.proofs.Shown as lemmas
use Rattle.report_reason.proofs.laws.one_reason.Goals as goal

pub returns : goal.returns
returns c = lemmas.one_reason
