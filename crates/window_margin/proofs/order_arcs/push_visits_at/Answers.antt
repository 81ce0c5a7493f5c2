use Rattle.std.proofs.Common.{arith}
use Rattle.hoist_base.specs.LineData.{visit_at}
use Rattle.timetable.specs.TimetableData.{timetable_of}
use Rattle.window_margin.specs.Arcs.{visit_pair}
use Rattle.window_margin.proofs.PairLemmas.{no_row}
use Rattle.window_margin.proofs.order_arcs.push_visits_at.Goals as goal

pub returns-else-i-j : goal.returns-else-i-j
returns-else-i-j c =
    let l = c.args.line.now in
    no_row c.args.i c.args.j (visit_pair l (timetable_of c.args.t.now) (visit_at l c.args.i) (visit_at l c.args.j)) c.args.arcs.now.items
    (omega (arith, c.if-i-j.false))
