use Rattle.std.proofs.Common.{codes}
use Rattle.timetable.specs.TimetableData.{timetable_of}
use Rattle.gantt_report.specs.DwellTable.{carrier_lines}
use Rattle.gantt_report.proofs.Rows.{one_more}
use Rattle.gantt_report.proofs.dwell.dwell_table.Goals as goal

pub loop-c-preserved : goal.loop-c-preserved
loop-c-preserved c =
    one_more (codes "dwell\n") c.loop-c.text.items c.push_visits.new.text.items c.loop-c.c
    (carrier_lines c.args.line.now (timetable_of c.args.t.now)) c.loop-c.invariant c.in_ok-push_visits.ensures
