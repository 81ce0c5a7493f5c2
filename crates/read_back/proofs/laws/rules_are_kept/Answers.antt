use Rattle.read_back.proofs.Back.{rules_are_kept}
use Rattle.read_back.proofs.laws.rules_are_kept.Goals as goal

pub returns : goal.returns
returns c = rules_are_kept
