use Rattle.cert_checker.proofs.RuleLemmas.{no_reason}
use Rattle.cert_checker.proofs.laws.answers_without_reason.Goals as goal

pub returns : goal.returns
returns c = no_reason
