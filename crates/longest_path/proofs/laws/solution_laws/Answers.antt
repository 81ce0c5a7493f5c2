use Rattle.longest_path.proofs.Cycles.{refuted}
use Rattle.longest_path.proofs.LeastLemmas.{least_is_one}
use Rattle.longest_path.proofs.laws.solution_laws.Goals as goal

pub returns : goal.returns
returns c = record { refuted = λ s period i ks walk gains t solves. refuted s period i ks t walk gains solves; one = least_is_one }
