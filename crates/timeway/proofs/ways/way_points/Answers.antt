use Rattle.std.proofs.Common.{[], ◌+◌, ◌++◌, ap, ◌∙◌}
use Rattle.timetable.specs.TimetableData.{timetable_of}
use Rattle.markup.proofs.Trees.{one_more}
use Rattle.timeway.specs.Shapes.{corner_text}
use Rattle.timeway.proofs.ways.way_points.Goals as goal

pub loop-u-preserved : goal.loop-u-preserved
loop-u-preserved c =
    let l = c.args.line.now in
    let p = timetable_of c.args.t.now in
    one_more [] c.loop-u.text.items c.push_corner.new.text.items c.loop-u.u (λ u. corner_text l p c.args.h (c.args.t.now.period + u))
    c.loop-u.invariant
    (c.in_ok-push_corner.ensures
    ∙ ap (λ x. c.loop-u.text.items ++ corner_text l p c.args.h (x + c.loop-u.u)) c.period-period.ensures.value)
