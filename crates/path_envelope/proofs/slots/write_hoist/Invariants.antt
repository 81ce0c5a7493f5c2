-- The moves so far are in the table.
use Rattle.path_envelope.specs.Duties.{duties}
use Rattle.path_envelope.specs.Slots.{IsTable}
use Rattle.path_envelope.proofs.slots.write_hoist.Given as goal

abbrev pub invariant-loop-number : goal.invariant-loop-number
invariant-loop-number l = IsTable l.asked.line.now (duties l.asked.line.now l.asked.route.now l.asked.period
    l.asked.starts.now l.asked.hoists.now) l.h l.number l.table
