use Rattle.path_constraints.specs.Ticks.{tick_at}
use Rattle.period_constraints.proofs.StayLemmas.{rides_first}
use Rattle.period_constraints.proofs.asking.first_hoist_pair.Goals as goal

pub returns-clause-first : goal.returns-clause-first
returns-clause-first c =
    rides_first c.args.line.now c.args.tanks.now c.args.assigned.now (tick_at c.args.ticks.now) c.write_starts.new.starts c.args.period c.first_meeting.result
    c.write_starts.ensures.starts
    c.first_meeting.ensures.first
