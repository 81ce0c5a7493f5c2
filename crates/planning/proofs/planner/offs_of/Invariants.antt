use Rattle.std.proofs.Common.{◌≡◌, ℕ, ◌+◌, ◌<◌, length, get_or}
use Rattle.hoist_base.specs.LineData.{move_number, last_step}
use Rattle.hoist_base.specs.Routes.{route_tank}
use Rattle.line_model.specs.Motion.{duration, motion_by}
use Rattle.planning.proofs.planner.offs_of.Given as goal

abbrev pub invariant-loop-carrier : goal.invariant-loop-carrier
invariant-loop-carrier l =
    (length l.offs.items ≡ l.line.degree)
    × ((j : ℕ) → j < l.carrier
    → get_or l.offs.items j 0
    ≡ get_or l.starts (move_number l.line j (last_step l.line)) 0 + duration
    (motion_by l.line (route_tank l.line l.route j) (last_step l.line)) + l.line.unload)
