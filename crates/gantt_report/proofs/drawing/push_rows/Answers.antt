use Rattle.std.proofs.Common.{◌+◌, ◌∙◌}
use Rattle.timetable.specs.TimetableData.{timetable_of}
use Rattle.gantt_report.specs.Chart.{cell, ground_cell}
use Rattle.gantt_report.proofs.Rows.{row_more, same_length}
use Rattle.gantt_report.proofs.drawing.push_rows.Goals as goal

pub draw_hoists-requires-clause-within : goal.draw_hoists-requires-clause-within
draw_hoists-requires-clause-within c h there = (c.requires.legal.track.spaced c.loop-tick.tick).within h there

pub loop-tick-preserved : goal.loop-tick-preserved
loop-tick-preserved c =
    let l = c.args.line.now in
    let p = timetable_of c.args.t.now in
    let tick = c.loop-tick.tick in (
      same_length (cell l p tick) (ground_cell l) (l.track + 1) c.draw_hoists.new.row.items c.args.ground.now c.draw_hoists.ensures c.requires.ground,
      row_more l p tick c.args.text.now.items c.loop-tick.text.items c.push_row.new.text.items c.as_slice.result.now
          c.loop-tick.invariant.1 (c.as_slice.ensures.value ∙ c.draw_hoists.ensures) c.in_ok-push_row.ensures,
    )
