use Rattle.std.proofs.Common.{take}
use Rattle.degree_sweep.proofs.PaceLemmas.{IsQuickest}
use Rattle.degree_sweep.proofs.best.best_of.Given as goal

abbrev pub invariant-loop-row : goal.invariant-loop-row
invariant-loop-row l = IsQuickest (take l.row-index l.rows) l.best
