use Rattle.std.proofs.Common.{◌≡◌, ℕ, ◌<◌, length, get_or, Some}
use Rattle.hoist_base.specs.LineData.{visit_at}
use Rattle.path_constraints.specs.Tanks.{tank_below}
use Rattle.node_expand.proofs.settling.route_of.Given as goal

-- the tanks of the visits so far
abbrev pub invariant-loop-number : goal.invariant-loop-number
invariant-loop-number l =
    (length l.numbers.items ≡ l.number)
    × ((j : ℕ) → j < l.number → tank_below l.line l.path (visit_at l.line j).carrier (visit_at l.line j).stage ≡ Some (get_or l.numbers.items j 0))
