use Rattle.cert_checker.proofs.PeriodLemmas.{given_before, given_by_low, given_by_high}
use Rattle.cert_checker.proofs.periods.first_open.Goals.{then-period-bound-via-then-period-bound, then-period-bound-via-else-period-bound+then-gives, then-period-bound-via-else-period-bound+else-gives+then-gives-2}
use Rattle.cert_checker.proofs.periods.first_open.Goals as goal
use Rattle.std.proofs.Common.{arith}

pub returns-then-period-bound : goal.returns-then-period-bound
returns-then-period-bound c t some lt =
    let low = c.args.low in
    let high = c.args.high in
    let m = c.least_open.result in
    let n = c.least_open-2.result in
    let p = c.max-period.result in
    let a = c.least_open.ensures in
    let b = c.least_open-2.ensures in
    elim c.then-period-bound.branch [
      | then-period-bound-via-then-period-bound w ↦ given_before low high m n p c.max-period.ensures a.below b.below t some
          (omega (arith, lt, w.if-period-bound.true))
      | then-period-bound-via-else-period-bound+then-gives w ↦
          given_by_low low high m n p c.args.bound c.max-period.ensures a.below b.below
          (a.open_there (omega (arith, c.max-period.ensures, w.if-period-bound.false))) (w.gives.ensures.0 w.if-gives.true) t some lt
      | then-period-bound-via-else-period-bound+else-gives+then-gives-2 w ↦
          given_by_high low high m n p c.args.bound c.max-period.ensures a.below b.below
          (b.open_there (omega (arith, c.max-period.ensures, w.if-period-bound.false))) (w.gives-else-gives.ensures.0 w.if-gives-2.true) t some lt
    ]
