use Rattle.timetable.specs.TimetableData.{timetable_of}
use Rattle.timetable.proofs.Joins.{none_before_first, none_before_one, none_before_two, none_before_three, none_before_four, none_before_five, none_before_six, none_before_seven, fault_is_first, last_rule}
use Rattle.timetable.proofs.legal.first_fault.Goals as goal

pub returns-in-Some-clause-legal : goal.returns-in-Some-clause-legal
returns-in-Some-clause-legal c =
    (fault_is_first c.args.line.now (timetable_of c.args.t.now) 0 c.in-Some.fault c.in-Some.ensures.line
    (none_before_first c.args.line.now (timetable_of c.args.t.now))
    c.in-Some.ensures.first).0

pub returns-in-Some-first_gap-clause-legal : goal.returns-in-Some-first_gap-clause-legal
returns-in-Some-first_gap-clause-legal c =
    (fault_is_first c.args.line.now (timetable_of c.args.t.now) 1 c.in-Some-first_gap.fault c.in_default.ensures.line
    (none_before_one c.args.line.now (timetable_of c.args.t.now) c.in_default.ensures.first)
    c.in-Some-first_gap.ensures).0

pub returns-in-Some-first_speed-clause-legal : goal.returns-in-Some-first_speed-clause-legal
returns-in-Some-first_speed-clause-legal c =
    (fault_is_first c.args.line.now (timetable_of c.args.t.now) 2 c.in-Some-first_speed.fault c.in_default.ensures.line
    (none_before_two c.args.line.now (timetable_of c.args.t.now) c.in_default.ensures.first c.in_default-first_gap.ensures)
    c.in-Some-first_speed.ensures).0

pub returns-in-Some-first_motion-clause-legal : goal.returns-in-Some-first_motion-clause-legal
returns-in-Some-first_motion-clause-legal c =
    (fault_is_first c.args.line.now (timetable_of c.args.t.now) 3 c.in-Some-first_motion.fault c.in_default.ensures.line
    (none_before_three c.args.line.now (timetable_of c.args.t.now)
    c.in_default.ensures.first c.in_default-first_gap.ensures c.in_default-first_speed.ensures)
    c.in-Some-first_motion.ensures).0

pub returns-in-Some-first_carry-clause-legal : goal.returns-in-Some-first_carry-clause-legal
returns-in-Some-first_carry-clause-legal c =
    (fault_is_first c.args.line.now (timetable_of c.args.t.now) 4 c.in-Some-first_carry.fault c.in_default.ensures.line
    (none_before_four c.args.line.now (timetable_of c.args.t.now)
    c.in_default.ensures.first c.in_default-first_gap.ensures c.in_default-first_speed.ensures c.in_default-first_motion.ensures)
    c.in-Some-first_carry.ensures).0

pub returns-in-Some-first_dwell-clause-legal : goal.returns-in-Some-first_dwell-clause-legal
returns-in-Some-first_dwell-clause-legal c =
    (fault_is_first c.args.line.now (timetable_of c.args.t.now) 5 c.in-Some-first_dwell.fault c.in_default.ensures.line
    (none_before_five c.args.line.now (timetable_of c.args.t.now)
    c.in_default.ensures.first c.in_default-first_gap.ensures c.in_default-first_speed.ensures c.in_default-first_motion.ensures
    c.in_default-first_carry.ensures)
    c.in-Some-first_dwell.ensures).0

pub returns-in-Some-first_numbering-clause-legal : goal.returns-in-Some-first_numbering-clause-legal
returns-in-Some-first_numbering-clause-legal c =
    (fault_is_first c.args.line.now (timetable_of c.args.t.now) 6 c.in-Some-first_numbering.fault c.in_default.ensures.line
    (none_before_six c.args.line.now (timetable_of c.args.t.now)
    c.in_default.ensures.first c.in_default-first_gap.ensures c.in_default-first_speed.ensures c.in_default-first_motion.ensures
    c.in_default-first_carry.ensures c.in_default-first_dwell.ensures)
    c.in-Some-first_numbering.ensures).0

pub returns-clause-legal : goal.returns-clause-legal
returns-clause-legal c =
    (last_rule c.args.line.now c.args.t.now c.first_hold.result c.in_default.ensures.line c.requires c.in_default.ensures.timetable
    (none_before_seven c.args.line.now (timetable_of c.args.t.now)
    c.in_default.ensures.first c.in_default-first_gap.ensures c.in_default-first_speed.ensures c.in_default-first_motion.ensures
    c.in_default-first_carry.ensures c.in_default-first_dwell.ensures c.in_default-first_numbering.ensures)
    c.first_hold.ensures).0
