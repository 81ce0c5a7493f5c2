use Rattle.std.proofs.Common.{arith, ◌∷◌, []}
use Rattle.std.proofs.lemmas.List.{length-append}
use Rattle.degree_sweep.proofs.RowLemmas.{shown_more}
use Rattle.degree_sweep.proofs.degrees.rows_up_to.Goals as goal

pub loop-below-preserved : goal.loop-below-preserved
loop-below-preserved g c =
    let i = c.loop-below.invariant in
    rw c.in_ok-push.ensures.items (
      omega (arith, i.0, length-append c.loop-below.rows.items (c.in_ok-row.row ∷ [])),
      shown_more c.args.line.now c.args.budget c.loop-below.below c.loop-below.rows.items c.in_ok-row.row i.0 i.1 c.in_ok-row.ensures,
    )
