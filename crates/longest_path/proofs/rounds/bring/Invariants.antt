use Rattle.std.proofs.Common.{ℕ, ◌<◌, length}
use Rattle.longest_path.specs.Rounds.{number}
use Rattle.longest_path.specs.Steps.{IsRound}
use Rattle.longest_path.proofs.rounds.bring.Given as goal

abbrev pub invariant-loop-k : goal.invariant-loop-k
invariant-loop-k l = (i : ℕ) → i < length l.old → IsRound l.steps l.k (number l.old) i (number l.fn.new i) (number l.new i)
