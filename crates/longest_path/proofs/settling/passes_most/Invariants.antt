use Rattle.std.proofs.Common.{ℕ, ◌<◌, ◌≤ℤ◌, pos}
use Rattle.longest_path.specs.Rounds.{number}
use Rattle.longest_path.proofs.settling.passes_most.Given as goal

abbrev pub invariant-loop-i : goal.invariant-loop-i
invariant-loop-i l = (x : ℕ) → x < l.i → number l.row x ≤ℤ pos 20000000000000000
