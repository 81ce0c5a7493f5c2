use Rattle.std.proofs.Common.{arith}
use Rattle.timetable.specs.TimetableData.{timetable_of}
use Rattle.timetable.proofs.CarryFaults.{carries_again, carries_other}
use Rattle.timetable.proofs.Pairs.{both_equal, not_both_equal}
use Rattle.timetable.proofs.carrying.first_shift.Goals as goal

pub returns-then-eq : goal.returns-then-eq
returns-then-eq c =
    let a = c.args.a in
    let b = c.args.b in
    let same = both_equal a.carrier b.carrier a.step b.step c.eq.result c.eq.ensures c.if-eq.true in
    let least = rw (c.carry_of-carry.ensures.begin, c.carry_of-carry.ensures.end, c.period.ensures.value) at c.first_return.ensures in
    carries_again c.args.line.now (timetable_of c.args.t.now) a.carrier a.step b.carrier b.step c.first_return.result c.requires.first same.0 same.1 least

pub returns-else-eq : goal.returns-else-eq
returns-else-eq c =
    let a = c.args.a in
    let b = c.args.b in
    let differ = not_both_equal a.carrier b.carrier a.step b.step c.eq.result c.eq.ensures c.if-eq.false in
    let least = rw (
      c.carry_of-carry.ensures.begin,
      c.carry_of-carry.ensures.end,
      c.carry_of.ensures.begin,
      c.carry_of.ensures.end,
      c.period-else-eq.ensures.value,
    ) at c.first_meeting.ensures in
    carries_other c.args.line.now (timetable_of c.args.t.now) a.carrier a.step b.carrier b.step c.first_meeting.result
    c.requires.first c.requires.second (omega (
      arith,
      c.hoist.ensures.value,
      c.hoist-2.ensures.value,
      c.if-hoist.false,
    )) c.requires.order differ least
