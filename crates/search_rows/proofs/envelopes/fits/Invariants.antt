-- The moves so far fit.
use Rattle.path_envelope.proofs.FitLemmas.{FitSoFar}
use Rattle.search_rows.proofs.envelopes.fits.Given as goal

abbrev pub invariant-loop-number : goal.invariant-loop-number
invariant-loop-number l = FitSoFar l.line l.route l.period l.starts l.hoists l.number
