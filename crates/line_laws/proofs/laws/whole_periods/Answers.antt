use Rattle.line_laws.proofs.WholeLemmas.{same_over_whole_periods}
use Rattle.line_laws.proofs.laws.whole_periods.Goals as goal

pub returns : goal.returns
returns c = same_over_whole_periods
