use Rattle.machine_loops.proofs.LoopLaws as laws
use Rattle.machine_loops.proofs.laws.loops_are_timetables.Goals as goal

pub returns : goal.returns
returns c = laws.loops_are_timetables
