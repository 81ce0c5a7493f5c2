use Rattle.std.proofs.Common.{[], arith}
use Rattle.path_constraints.proofs.BaseLemmas.{carriers_more, base_is}
use Rattle.path_constraints.proofs.systems.base_of.Goals as goal

pub loop-carrier-preserved : goal.loop-carrier-preserved
loop-carrier-preserved c =
    carriers_more c.args.line.now [] c.loop-carrier.carrier c.in_ok-s.s c.loop-carrier.s c.write_carrier.new.s
    c.degree-carrier-end.ensures.valid.limits.stages.0 c.loop-carrier.invariant c.write_carrier.ensures

pub returns : goal.returns
returns c =
    base_is c.args.line.now c.loop-carrier.carrier c.in_ok-s.s c.loop-carrier.s c.in_ok-s.ensures.places c.in_ok-s.ensures.count
    (omega (arith, c.loop-carrier-test.false, c.loop-carrier.auto.carrier-end, c.degree-carrier-end.ensures.value)) c.loop-carrier.invariant
