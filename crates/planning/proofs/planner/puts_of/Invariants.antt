use Rattle.std.proofs.Common.{◌≡◌, ℕ, ◌+◌, ◌<◌, length, get_or}
use Rattle.hoist_base.specs.LineData.{move_number}
use Rattle.planning.proofs.planner.puts_of.Given as goal

abbrev pub invariant-loop-carrier : goal.invariant-loop-carrier
invariant-loop-carrier l =
    (length l.puts.items ≡ l.line.degree)
    × ((j : ℕ) → j < l.carrier → get_or l.puts.items j 0 + l.line.load ≡ get_or l.starts (move_number l.line j 0) 0)
