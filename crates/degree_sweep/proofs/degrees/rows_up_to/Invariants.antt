use Rattle.std.proofs.Common.{◌≡◌, length}
use Rattle.degree_sweep.specs.Shown.{AreShown}
use Rattle.degree_sweep.proofs.degrees.rows_up_to.Given as goal

abbrev pub invariant-loop-below : goal.invariant-loop-below
invariant-loop-below g l = (length l.rows.items ≡ l.below) × AreShown l.line l.budget l.rows.items
