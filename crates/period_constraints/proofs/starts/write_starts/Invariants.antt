use Rattle.std.proofs.Common.{ℕ, ◌<◌, get_or, None}
use Rattle.path_constraints.specs.Ticks.{tick_at}
use Rattle.period_constraints.specs.Starts.{IsStart, IsNumbered, start}
use Rattle.period_constraints.proofs.starts.write_starts.Given as goal

-- those so far are written
abbrev pub invariant-loop-number : goal.invariant-loop-number
invariant-loop-number l = record {
  starts : (i : ℕ) → i < l.number
      → IsStart l.line l.tanks (get_or l.assigned i None) (tick_at l.ticks) i (start l.starts i);
  numbered : (i : ℕ) → i < l.number → IsNumbered l.line l.table.rides.now (start l.starts i);
}
