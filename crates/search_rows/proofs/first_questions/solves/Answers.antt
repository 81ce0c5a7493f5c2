use Rattle.std.proofs.Common.{◌≡◌, List, get_or, below_more, ap, subst, arith}
use Rattle.std.specs.Prelude.{◌+ℤ◌, ◌≤ℤ◌}
use Rattle.std.proofs.lemmas.Int.{ints}
use Rattle.longest_path.specs.declared.systems.Arc.{Arc}
use Rattle.longest_path.specs.System.{arc, weight}
use Rattle.path_constraints.specs.Constraints.{no_arc}
use Rattle.path_constraints.specs.Ticks.{tick_at}
use Rattle.search_rows.proofs.first_questions.solves.Goals as goal

pub loop-arc-preserved : goal.loop-arc-preserved
loop-arc-preserved c =
    let k = c.loop-arc.arc-index in
    let ticks = c.args.ticks.now in
    let t = c.args.period in
    let a = get_or c.arcs-arc-items.result.now k no_arc in
    let is : a ≡ arc c.args.s.now k = ap (λ (xs : List Arc). get_or xs k no_arc) c.arcs-arc-items.ensures.value in
    let P : Arc → Type 0 = λ x. (tick_at ticks x.from +ℤ weight x t) ≤ℤ tick_at ticks x.to in
    let kept = c.keeps.ensures.0 c.if-not-keeps.false in
    let here : P a = omega (arith, ints, kept, c.weight.ensures.value, c.weight.ensures.small, c.requires.ticks.1 a.from, c.requires.ticks.1 a.to) in
    below_more _ _ c.loop-arc.invariant (subst P is here)
