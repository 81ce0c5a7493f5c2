use Rattle.std.proofs.Common.{◌≡◌, ℕ, ◌<◌, length, get_or, Some}
use Rattle.hoist_base.specs.LineData.{move_at}
use Rattle.path_constraints.specs.Hoists.{hoist_below}
use Rattle.node_expand.proofs.settling.hoists_of.Given as goal

-- the hoists of the moves so far
abbrev pub invariant-loop-number : goal.invariant-loop-number
invariant-loop-number l =
    (length l.numbers.items ≡ l.number)
    × ((j : ℕ) → j < l.number → hoist_below l.line l.path (move_at l.line j).carrier (move_at l.line j).step ≡ Some (get_or l.numbers.items j 0))
