use Rattle.std.proofs.Common.{Option, subst, sym}
use Rattle.cycle_walk.specs.declared.sums.Sums.{Sums}
use Rattle.cert_checker.specs.Followed.{Gives}
use Rattle.cert_checker.proofs.periods.least_open.Goals as goal

pub returns-in-Some-clause-below : goal.returns-in-Some-clause-below
returns-in-Some-clause-below c t some lt =
    let P : Option Sums → Type 0 = λ o. Gives o t in
    subst P (sym c.in-Some.is) (c.least_kept.ensures.below t some lt)

pub returns-in-Some-clause-open_there : goal.returns-in-Some-clause-open_there
returns-in-Some-clause-open_there c lt again =
    let P : Option Sums → Type 0 = λ o. Gives o c.least_kept.result in
    c.least_kept.ensures.kept lt (subst P c.in-Some.is again)
