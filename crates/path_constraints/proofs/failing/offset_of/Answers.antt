use Rattle.std.proofs.Common.{◌≡◌, arith, ◌∙◌}
use Rattle.std.proofs.lemmas.Int.{ints}
use mir.Val.{to_z, of_z}
use mir.Syntax.{w64}
use Rattle.hoist_base.specs.LineData.{move_number}
use Rattle.path_constraints.specs.Ticks.{tick_at}
use Rattle.path_constraints.proofs.FailLemmas.{later_is}
use Rattle.path_constraints.proofs.failing.offset_of.Goals as goal

pub returns-clause-value : goal.returns-clause-value
returns-clause-value c =
    let b = tick_at c.args.ticks.now (move_number c.args.line.now c.args.b.carrier c.args.b.step) in
    let q : to_z w64 (of_z w64 c.args.q) ≡ c.args.q = omega (arith, ints, c.requires.q) in
    let start : to_z w64 (of_z w64 c.start_of-start.result) ≡ c.start_of-start.result = omega (arith, ints, c.start_of-start.ensures.small) in
    let second = later_is (to_z w64 (of_z w64 c.start_of-start.result)) b (to_z w64 (of_z w64 c.args.q)) c.args.q c.args.period c.later-second.result
    (start ∙ c.start_of-start.ensures.value) q c.later-second.ensures.value in
    omega (arith, ints, second, c.start_of-first.ensures.value, c.start_of-first.ensures.small, c.later-second.ensures.small)
