use Rattle.gantt_report.proofs.CarryLaw.{tells_carries}
use Rattle.gantt_report.proofs.laws.carries_is_told.Goals as goal

pub returns : goal.returns
returns c = tells_carries
