use Rattle.solve_line.proofs.OneLemmas.{solution_is_one}
use Rattle.solve_line.proofs.laws.solution_is_one.Goals as goal

pub returns : goal.returns
returns c = solution_is_one
