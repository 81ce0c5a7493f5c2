use Rattle.gantt_report.specs.Chart.{ground_cell}
use Rattle.gantt_report.proofs.Rows.{cell_more}
use Rattle.gantt_report.proofs.drawing.ground_row.Goals as goal

pub loop-x-preserved : goal.loop-x-preserved
loop-x-preserved c =
    cell_more (ground_cell c.args.line.now) c.loop-x.x c.loop-x.row.items c.push.new.self.items c.ground_cell.result
    c.loop-x.invariant c.in_ok-push.ensures.items c.ground_cell.ensures
