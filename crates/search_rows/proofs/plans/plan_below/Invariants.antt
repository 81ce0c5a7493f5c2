use Rattle.std.proofs.Common.{◌≤◌, length}
use Rattle.path_constraints.specs.Questions.{FitsPath}
use Rattle.search_rows.proofs.plans.plan_below.Given as goal

abbrev pub invariant-loop-i : goal.invariant-loop-i
invariant-loop-i l = FitsPath l.line l.path.items × (length l.path.items ≤ l.i)
