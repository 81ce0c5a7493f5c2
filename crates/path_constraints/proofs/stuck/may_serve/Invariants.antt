use Rattle.std.proofs.Common.{ℕ, ◌<◌, get_or}
use Rattle.hoist_base.specs.LineData.{position_of}
use Rattle.line_model.specs.Motion.{Reaches}
use Rattle.path_constraints.proofs.stuck.may_serve.Given as goal

-- the hoist reaches none of the tanks so far
abbrev pub invariant-loop-i : goal.invariant-loop-i
invariant-loop-i l = (k : ℕ) → k < l.i → Reaches l.line l.h (position_of l.line (get_or l.tanks k 0)) → ⊥
