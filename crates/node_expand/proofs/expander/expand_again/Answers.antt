use Rattle.std.proofs.Common.{ap, arith}
use Rattle.node_expand.specs.declared.least_period.LeastPeriod.{LeastPeriod}
use Rattle.node_expand.proofs.expander.expand_again.Goals as goal

pub returns-clause-expansion : goal.returns-clause-expansion
returns-clause-expansion c cap below =
    c.in_ok-expanded.ensures.expansion cap (omega (arith, below, ap (λ (x : LeastPeriod). x.period) c.in_ok-least.ensures))

pub returns-clause-shows : goal.returns-clause-shows
returns-clause-shows c cap below =
    c.in_ok-expanded.ensures.shows cap (omega (arith, below, ap (λ (x : LeastPeriod). x.period) c.in_ok-least.ensures))
