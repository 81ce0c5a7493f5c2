use Rattle.std.proofs.Common.{◌≡◌, length, arith}
use Rattle.std.proofs.lemmas.List.{ext_get_or}
use Rattle.path_constraints.specs.Tanks.{no_decision}
use Rattle.node_expand.proofs.climbs.is_same.Goals as goal

pub returns : goal.returns
returns c same =
    let kept = c.args.kept.now in
    let path = c.args.path.now in
    let count : length kept ≡ length path = omega (arith, c.if-kept-path.false) in
    ext_get_or no_decision kept path count (λ i lt. c.loop-left.invariant.1 i (omega (arith, c.loop-left-test.false)) (omega (arith, lt, count)))
