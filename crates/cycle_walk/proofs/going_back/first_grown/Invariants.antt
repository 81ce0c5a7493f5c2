use Rattle.std.proofs.Common.{◌≡◌, ◌-◌, ℕ, ◌<◌, false}
use Rattle.std.specs.Prelude.{int_lt}
use Rattle.longest_path.specs.Rounds.{cell}
use Rattle.cycle_walk.proofs.going_back.first_grown.Given as goal

abbrev pub invariant-loop-i : goal.invariant-loop-i
invariant-loop-i l = (x : ℕ) → x < l.i → int_lt (cell l.n l.rows (l.n - 1) x) (cell l.n l.rows l.n x) ≡ false
