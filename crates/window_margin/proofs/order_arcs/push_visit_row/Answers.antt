use Rattle.std.proofs.Common.{arith}
use Rattle.hoist_base.specs.LineData.{visit_count}
use Rattle.timetable.specs.TimetableData.{timetable_of}
use Rattle.window_margin.specs.Arcs.{visit_row}
use Rattle.window_margin.proofs.PairLemmas.{rows_step, rows_done}
use Rattle.window_margin.proofs.order_arcs.push_visit_row.Goals as goal

pub loop-j-preserved : goal.loop-j-preserved
loop-j-preserved c = rows_step (visit_row c.args.line.now (timetable_of c.args.t.now) c.args.i) c.loop-j.j _ _ _
    c.loop-j.invariant c.in_ok-push_visits_at.ensures

pub returns : goal.returns
returns c =
    rows_done (visit_row c.args.line.now (timetable_of c.args.t.now) c.args.i) c.loop-j.j (visit_count c.args.line.now) _ _
    (omega (arith, c.loop-j-test.false, c.loop-j.auto.j-end, c.visit_count-j-end.ensures.value)) c.loop-j.invariant
