use Rattle.answer_loops.proofs.OptimalLoops as laws
use Rattle.answer_loops.proofs.laws.no_loop_is_shorter.Goals as goal

pub returns : goal.returns
returns c = laws.no_loop_is_shorter
