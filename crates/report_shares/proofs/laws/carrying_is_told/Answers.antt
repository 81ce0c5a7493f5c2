use Rattle.report_shares.proofs.CarryLaw.{carrying_told}
use Rattle.report_shares.proofs.laws.carrying_is_told.Goals as goal

pub returns : goal.returns
returns c = carrying_told
