use Rattle.std.proofs.Common.{◌+◌, arith}
use Rattle.timetable.specs.TimetableData.{timetable_of}
use Rattle.gantt_report.specs.Chart.{mark_place}
use Rattle.gantt_report.proofs.Marking.{place_is, place_within, room_is, tick_marked}
use Rattle.gantt_report.proofs.marks.mark_move.Goals as goal

pub loop-u-preserved : goal.loop-u-preserved
loop-u-preserved c =
    let p = timetable_of c.args.t.now in
    let m = c.args.m in
    let l = c.loop-u in
    tick_marked c.args.marks.now.items l.marks.items (mark_place p m.carrier m.step) l.u _
    (place_is p m.carrier m.step l.u c.hoist.result c.period-period.result c.start.result c.hoist.ensures.value
    c.period-period.ensures.value c.start.ensures.value)
    (place_within c.hoist.result c.period-period.result (c.start.result + l.u) _
    (omega (arith, c.period-period.ensures.valid.period.0, c.period-period.ensures.value))
    (room_is c.hoist.result c.period-period.result _ _ _ _ c.hoist.ensures.value c.period-period.ensures.value l.invariant.0 c.requires.room))
    l.invariant
