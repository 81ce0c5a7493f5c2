use Rattle.degree_sweep.proofs.PaceLemmas.{next_row, best_some, best_none}
use Rattle.degree_sweep.proofs.best.best_of.Goals as goal

pub loop-row-preserved : goal.loop-row-preserved
loop-row-preserved c =
    next_row c.args.rows.now c.loop-row.best c.loop-row.row-index _ c.of.result c.quicker-best.result c.loop-row-test.true c.of.ensures
    c.quicker-best.ensures c.requires.periods c.requires.degrees c.loop-row.invariant

pub returns-in-Some : goal.returns-in-Some
returns-in-Some c =
    best_some c.args.rows.now c.loop-row.best c.loop-row.row-index c.in-Some.pace c.loop-row-test.false c.in-Some.is c.loop-row.invariant

pub returns-in-None : goal.returns-in-None
returns-in-None c =
    best_none c.args.rows.now c.loop-row.best c.loop-row.row-index c.loop-row-test.false c.in-None.is c.loop-row.invariant
