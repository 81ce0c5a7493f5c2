use Rattle.std.proofs.Common.{ℕ, ◌<◌, length}
use Rattle.longest_path.specs.Rounds.{number}
use Rattle.longest_path.specs.Near.{IsNearest}
use Rattle.longest_path.proofs.rounds.bring_between.Given as goal

abbrev pub invariant-loop-i : goal.invariant-loop-i
invariant-loop-i l =
    (j : ℕ) → 0 < j → j < l.i → IsNearest (length l.old) l.near (number l.old) j (number l.new j)
