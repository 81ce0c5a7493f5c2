use Rattle.search_rows.proofs.OrderLemmas.{fits_one}
use Rattle.search_rows.proofs.constraints.fits_alone.Goals as goal

pub returns : goal.returns
returns c = λ e.
    let order = c.is_child_of_order.ensures e in
    fits_one c.args.line.now c.args.decision (c.fits.ensures.0 c.if-not-fits.false) order.0 order.1
