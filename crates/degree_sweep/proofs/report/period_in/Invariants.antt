use Rattle.std.proofs.Common.{◌≡◌, drop}
use Rattle.degree_sweep.specs.SweepText.{period_in}
use Rattle.degree_sweep.proofs.report.period_in.Given as goal

abbrev pub invariant-loop-row : goal.invariant-loop-row
invariant-loop-row l = period_in l.rows l.degree ≡ period_in (drop l.row-index l.rows) l.degree
