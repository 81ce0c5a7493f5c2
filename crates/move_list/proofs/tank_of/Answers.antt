use Rattle.hoist_base.specs.Routes.{route_tank}
use Rattle.move_list.proofs.tank_of.Goals as goal

-- a tank of the visit's stage is one of the line's
pub returns-clause-there : goal.returns-clause-there
returns-clause-there c =
    let served = c.requires.route.serves c.args.carrier c.args.stage c.requires.visit in
    let there = c.stages-stages.ensures.valid.stages.there c.args.stage (route_tank c.args.line.now c.args.route.now c.args.carrier c.args.stage) served in
    rw (c.as_slice.ensures, c.stages-stages.ensures.value) there
