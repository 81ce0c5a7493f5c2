use Rattle.std.proofs.Common.{◌≡◌, ℕ, sym, subst, ap, ◌∙◌}
use Rattle.hoist_base.specs.LineData.{LineData}
use Rattle.period_constraints.specs.Lookups.{IsLookupOf}
use Rattle.node_expand.specs.PathSystems.{IsPathSystem}
use Rattle.node_expand.specs.Reaching.{IsReachOf}
use Rattle.node_expand.specs.Climbs.{AreClimbs}
use Rattle.node_expand.proofs.expander.Expander.new.Goals as goal

pub invariant_of-result : goal.invariant_of-result
invariant_of-result c =
    let l = c.args.line.now in
    let same : c.in_ok-line.line ≡ l = c.in_ok-line.ensures ∙ ap (λ (d : ℕ). let r : LineData = record l { degree = d } in r) c.degree.ensures.value in
    let P : LineData → Type 0 =
    λ x. IsPathSystem x c.in_ok-at.at × IsReachOf x c.of-reach.result × IsLookupOf x c.in_ok-lookup.lookup × AreClimbs x c.new-climbs.result in
    subst P (sym same) (c.in_ok-at.ensures, c.of-reach.ensures, c.in_ok-lookup.ensures, c.new-climbs.ensures l)
