use Rattle.timetable.specs.TimetableData.{timetable_of}
use Rattle.markup.proofs.Trees.{holds_more, holds_none}
use Rattle.report_shares.specs.Numbers.{carrier_fact}
use Rattle.report_shares.proofs.facts.with_carriers.Goals as goal

pub loop-c-init : goal.loop-c-init
loop-c-init c = holds_none c.args.table (carrier_fact c.args.line.now (timetable_of c.args.t.now))

pub loop-c-preserved : goal.loop-c-preserved
loop-c-preserved c =
    holds_more c.args.table c.loop-c.table c.in_ok-table.table c.in_ok-row.row
    (carrier_fact c.args.line.now
    (timetable_of c.args.t.now)) c.loop-c.c c.loop-c.invariant c.in_ok-row.ensures c.in_ok-table.ensures
