use Rattle.machine_loops.proofs.LoopLaws as laws
use Rattle.machine_loops.proofs.laws.no_loop_is_shorter.Goals as goal

pub returns : goal.returns
returns c = laws.no_loop_is_shorter
