use Rattle.std.proofs.Common.{◌+◌, refl, arith, ap, take, length}
use Rattle.std.proofs.lemmas.Result.{on_ok_weaker}
use Rattle.longest_path.specs.System.{SystemData}
use Rattle.path_constraints.proofs.Settled.{fits-take}
use Rattle.path_constraints.proofs.BaseLemmas.{has_places, arcs_few}
use Rattle.path_constraints.proofs.DecideLemmas.{order_of, decide_order, decide_choose, decide_assign}
use Rattle.path_constraints.proofs.systems.decide.Goals as goal

pub write_visit-requires-clause-places : goal.write_visit-requires-clause-places
write_visit-requires-clause-places c = has_places c.args.line.now (take c.args.i c.args.path.now) c.args.s.now c.requires.system

pub decided_arc-arc-requires-clause-fits : goal.decided_arc-arc-requires-clause-fits
decided_arc-arc-requires-clause-fits c = fits-take c.args.line.now c.args.path.now (c.args.i + 1) c.requires.fits

pub push-requires-clause-room : goal.push-requires-clause-room
push-requires-clause-room c =
    let valid = c.decided_arc-arc.ensures.valid (order_of _ c.in_default.not-Assign c.in_default.not-Choose) in
    omega (arith, ap (λ (x : SystemData). length x.arcs) c.requires.system, arcs_few c.args.line.now c.args.path.now c.args.i valid c.requires.i.1)

pub returns-in-Assign-clause-ok : goal.returns-in-Assign-clause-ok
returns-in-Assign-clause-ok c = decide_assign c.args.line.now c.args.path.now c.args.i _ c.in-Assign.m c.args.s.now c.requires.fits c.requires.i.0 refl
    c.in-Assign.is c.requires.system

pub returns-in-Choose-clause-ok : goal.returns-in-Choose-clause-ok
returns-in-Choose-clause-ok c =
    decide_choose c.args.line.now c.args.path.now c.args.i _ c.in-Choose.v c.args.s.now c.write_visit.new.s c.write_visit.ensures.valid c.requires.fits
    c.requires.i.0 refl c.in-Choose.is c.requires.system c.write_visit.ensures.written

pub returns-in_default-clause-ok : goal.returns-in_default-clause-ok
returns-in_default-clause-ok c =
    let order = order_of _ c.in_default.not-Assign c.in_default.not-Choose in
    let valid = c.decided_arc-arc.ensures.valid order in
    on_ok_weaker c.push.result
    (λ ok. decide_order c.args.line.now c.args.path.now c.args.i _ c.args.s.now c.push.new.self c.decided_arc-arc.result valid c.requires.fits c.requires.i.0
    refl order
    c.requires.system c.decided_arc-arc.ensures.value ok)
    c.push.ensures.ok
