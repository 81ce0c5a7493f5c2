use Rattle.report_shares.proofs.Adding.{shares_add}
use Rattle.report_shares.proofs.laws.shares_add_up.Goals as goal

pub returns : goal.returns
returns c = shares_add
