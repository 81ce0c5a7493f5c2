use Rattle.claim_board.proofs.Kept.{steps_keep_rule}
use Rattle.claim_board.proofs.laws.steps_keep_rule.Goals as goal

pub returns : goal.returns
returns c = steps_keep_rule
