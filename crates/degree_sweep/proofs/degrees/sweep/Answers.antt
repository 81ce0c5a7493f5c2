use Rattle.std.proofs.Common.{List, subst}
use Rattle.degree_sweep.specs.declared.rows.DegreeRow.{DegreeRow}
use Rattle.degree_sweep.specs.Sweep.{IsBest}
use Rattle.degree_sweep.proofs.RowLemmas.{have_periods, have_degrees, are_rows, are_bounds, is_least}
use Rattle.degree_sweep.proofs.degrees.sweep.Goals as goal

pub best_of-best-requires-clause-periods : goal.best_of-best-requires-clause-periods
best_of-best-requires-clause-periods g c =
    rw c.as_slice.ensures.value (have_periods c.args.line.now c.args.budget c.in_ok-rows.rows.items c.in_ok-rows.ensures.rows)

pub best_of-best-requires-clause-degrees : goal.best_of-best-requires-clause-degrees
best_of-best-requires-clause-degrees g c =
    rw c.as_slice.ensures.value (have_degrees c.args.line.now c.args.budget c.in_ok-rows.rows.items c.in_ok-rows.ensures.rows)

pub returns-clause-swept : goal.returns-clause-swept
returns-clause-swept g c =
    let rows = c.in_ok-rows.rows.items in
    let B : List DegreeRow → Type 0 = λ rs. IsBest rs c.best_of-best.result in
    rw c.from_vec.ensures (record {
      rows = are_rows c.args.line.now c.args.upto c.args.budget rows c.in_ok-rows.ensures.count c.in_ok-rows.ensures.rows;
      best = subst B c.as_slice.ensures.value c.best_of-best.ensures;
    })

pub returns-clause-bounds : goal.returns-clause-bounds
returns-clause-bounds g c =
    rw c.from_vec.ensures (are_bounds c.args.line.now c.args.budget c.in_ok-rows.rows.items c.in_ok-rows.ensures.rows)

pub returns-clause-least : goal.returns-clause-least
returns-clause-least g c =
    let rows = c.in_ok-rows.rows.items in
    let B : List DegreeRow → Type 0 = λ rs. IsBest rs c.best_of-best.result in
    rw c.from_vec.ensures
    (is_least c.args.line.now c.args.upto c.args.budget (record { rows = rows; best = c.best_of-best.result }) c.in_ok-rows.ensures.count
    c.in_ok-rows.ensures.rows (subst B c.as_slice.ensures.value c.best_of-best.ensures))
