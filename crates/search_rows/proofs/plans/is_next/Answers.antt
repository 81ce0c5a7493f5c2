use Rattle.search_rows.proofs.NextLemmas.{fits_next}
use Rattle.search_rows.proofs.plans.is_next.Goals as goal

pub returns : goal.returns
returns c = λ e.
    fits_next c.args.line.now c.args.path.now c.args.decision c.children_of.result (c.fits.ensures.0 c.if-not-fits.false)
    (c.children_of.ensures c.args.path.now) e
