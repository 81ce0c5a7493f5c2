use Rattle.std.proofs.Common.{◌≡◌, arith, ◌∙◌, sym, ap, ℤ}
use Rattle.std.specs.Prelude.{IsTrue}
use Rattle.std.proofs.lemmas.Int.{ints}
use mir.Val.{to_z, of_z}
use mir.Syntax.{w64}
use Rattle.path_constraints.specs.Questions.{offset_of}
use Rattle.path_constraints.specs.Hoists.{clash_below}
use Rattle.path_constraints.specs.Ticks.{tick_at}
use Rattle.path_constraints.proofs.FailLemmas.{within_is}
use Rattle.path_constraints.proofs.failing.fails_hoist_order.Goals as goal

pub returns-in-Some : goal.returns-in-Some
returns-in-Some c =
    let l = c.args.line.now in
    let q : to_z w64 (of_z w64 c.args.q) ≡ c.args.q = omega (arith, ints, c.requires.q) in
    let r : to_z w64 (of_z w64 c.offset_of-offset.result) ≡ c.offset_of-offset.result = omega (arith, ints, c.offset_of-offset.ensures.small) in
    let o = r ∙ c.offset_of-offset.ensures.value ∙ ap (λ (z : ℤ). offset_of l (tick_at c.args.ticks.now) c.args.period c.args.a c.args.b z) q in
    within_is (IsTrue c.is_within.result) (clash_below l c.args.path.now c.args.a c.args.b) c.in-Some.span (to_z w64 (of_z w64 c.offset_of-offset.result))
    (offset_of l (tick_at c.args.ticks.now) c.args.period c.args.a c.args.b c.args.q)
    (sym c.clash_below.ensures.value ∙ c.in-Some.is) o c.is_within.ensures
