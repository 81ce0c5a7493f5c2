use Rattle.std.proofs.Common.{ℕ, ◌+◌, ◌*◌, ◌<◌, ◌≤◌, length}
use Rattle.std.specs.Prelude.{unsigned_abs}
use Rattle.longest_path.specs.Rounds.{number}
use Rattle.longest_path.specs.Steps.{IsRaised}
use Rattle.longest_path.proofs.settling.raise.Given as goal

abbrev pub invariant-loop-k : goal.invariant-loop-k
invariant-loop-k l =
    IsRaised l.s l.period l.k (number l.fn.row) (number l.row)
    × ((i : ℕ) → i < length l.fn.row → unsigned_abs (number l.row i) ≤ 20000000000000000 + l.k * 30000000000000)
