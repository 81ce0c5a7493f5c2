use Rattle.std.proofs.Common.{arith}
use Rattle.timetable.specs.TimetableData.{timetable_of}
use Rattle.timetable.proofs.HoldFaults.{holds_again, holds_other}
use Rattle.timetable.proofs.Pairs.{both_equal, not_both_equal}
use Rattle.timetable.proofs.holding.first_shift.Goals as goal

pub returns-then-eq : goal.returns-then-eq
returns-then-eq c =
    let a = c.args.a in
    let b = c.args.b in
    let same = both_equal a.carrier b.carrier a.stage b.stage c.eq.result c.eq.ensures c.if-eq.true in
    let least = rw (c.hold_of-hold.ensures.begin, c.hold_of-hold.ensures.end, c.period.ensures.value) at c.first_return.ensures in
    holds_again c.args.line.now (timetable_of c.args.t.now) a.carrier a.stage b.carrier b.stage c.first_return.result c.requires.first same.0 same.1 least

pub returns-else-eq : goal.returns-else-eq
returns-else-eq c =
    let a = c.args.a in
    let b = c.args.b in
    let differ = not_both_equal a.carrier b.carrier a.stage b.stage c.eq.result c.eq.ensures c.if-eq.false in
    let least = rw (
      c.hold_of-hold.ensures.begin,
      c.hold_of-hold.ensures.end,
      c.hold_of.ensures.begin,
      c.hold_of.ensures.end,
      c.period-else-eq.ensures.value,
    ) at c.first_meeting.ensures in
    holds_other c.args.line.now (timetable_of c.args.t.now) a.carrier a.stage b.carrier b.stage c.first_meeting.result
    c.requires.first c.requires.second (omega (
      arith,
      c.tank.ensures.value,
      c.tank-2.ensures.value,
      c.if-tank.false,
    )) c.requires.order differ least
