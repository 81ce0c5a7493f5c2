use Rattle.std.proofs.Common.{◌≡◌, ℕ, ◌<◌}
use Rattle.longest_path.specs.Rounds.{number}
use Rattle.longest_path.proofs.rounds.has_changed.Given as goal

abbrev pub invariant-loop-i : goal.invariant-loop-i
invariant-loop-i l = (x : ℕ) → x < l.i → number l.new x ≡ number l.old x
