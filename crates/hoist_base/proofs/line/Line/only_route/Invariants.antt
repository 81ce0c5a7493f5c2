use Rattle.std.proofs.Common.{◌≡◌, ◌<◌, ◌%◌, ℕ, length, get_or}
use Rattle.hoist_base.specs.LineData.{stage}
use Rattle.hoist_base.proofs.line.Line.only_route.Given as goal

abbrev pub invariant-loop-i : goal.invariant-loop-i
invariant-loop-i l =
    (length l.numbers.items ≡ l.i)
    × ((j : ℕ) → j < l.i → get_or l.numbers.items j 0 ≡ get_or (stage l.self (j % length l.self.stages)).tanks 0 0)
