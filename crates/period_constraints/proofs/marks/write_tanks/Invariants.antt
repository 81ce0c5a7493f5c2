use Rattle.std.proofs.Common.{ℕ, ◌<◌, ◌≡◌, get_or}
use Rattle.hoist_base.specs.LineData.{stage, visit_at}
use Rattle.period_constraints.specs.Marks.{place_by}
use Rattle.period_constraints.proofs.marks.write_tanks.Given as goal

-- those so far are written
abbrev pub invariant-loop-number : goal.invariant-loop-number
invariant-loop-number l =
    (i : ℕ) → i < l.number → get_or l.tanks i 0 ≡ get_or (stage l.line (visit_at l.line i).stage).tanks (place_by l.choices i) 0
