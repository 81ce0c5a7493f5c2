use Rattle.std.proofs.Common.{◌∙◌, ℕ, ap}
use Rattle.path_constraints.specs.Tanks.{low}
use Rattle.path_constraints.proofs.HoldLemmas.{end_same}
use Rattle.path_constraints.proofs.holds.end_below.Goals as goal

pub returns-clause-value : goal.returns-clause-value
returns-clause-value c =
    let l = c.args.line.now in
    let path = c.args.path.now in
    let v = c.args.visit in
    c.end_of.ensures.value
    ∙ end_same l (λ d j. c.times_below.result.low) (low l path) v.carrier v.stage
    (c.times_below.ensures.low ∙ ap (λ (k : ℕ). low l path v.carrier k) c.inner.ensures.value)
