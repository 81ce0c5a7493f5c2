use Rattle.std.proofs.Common.{◌≡◌, arith, ◌∙◌}
use Rattle.std.specs.Prelude.{IsTrue}
use Rattle.std.proofs.lemmas.Int.{ints}
use mir.Val.{to_z, of_z}
use mir.Syntax.{w64}
use Rattle.path_constraints.specs.Holds.{periods_later}
use Rattle.path_constraints.proofs.FailLemmas.{later_is, below_is}
use Rattle.path_constraints.proofs.failing.hold_together.Goals as goal

pub returns : goal.returns
returns c =
    let a = c.args.a in
    let b = c.args.b in
    let q : to_z w64 (of_z w64 c.args.q) ≡ c.args.q = omega (arith, ints, c.requires.q) in
    let bb : to_z w64 (of_z w64 b.begin) ≡ b.begin = omega (arith, ints, c.requires.second.0) in
    let be : to_z w64 (of_z w64 b.end) ≡ b.end = omega (arith, ints, c.requires.second.1) in
    let ab : to_z w64 (of_z w64 a.begin) ≡ a.begin = omega (arith, ints, c.requires.first.0) in
    let ae : to_z w64 (of_z w64 a.end) ≡ a.end = omega (arith, ints, c.requires.first.1) in
    let rb : to_z w64 (of_z w64 c.later-begin.result) ≡ c.later-begin.result = omega (arith, ints, c.later-begin.ensures.small) in
    let re : to_z w64 (of_z w64 c.later-end.result) ≡ c.later-end.result = omega (arith, ints, c.later-end.ensures.small) in
    let begins = later_is (to_z w64 (of_z w64 b.begin)) b.begin (to_z w64 (of_z w64 c.args.q)) c.args.q c.args.period c.later-begin.result bb q
    c.later-begin.ensures.value in
    let ends = later_is (to_z w64 (of_z w64 b.end)) b.end (to_z w64 (of_z w64 c.args.q)) c.args.q c.args.period c.later-end.result be q
    c.later-end.ensures.value in
    below_is (IsTrue c.are_below.result) (to_z w64 (of_z w64 c.later-begin.result)) (to_z w64 (of_z w64 a.end)) (to_z w64 (of_z w64 a.begin))
    (to_z w64 (of_z w64 c.later-end.result))
    (periods_later b.begin c.args.q c.args.period) a.end a.begin (periods_later b.end c.args.q c.args.period) (rb ∙ begins) ae ab (re ∙ ends)
    c.are_below.ensures
