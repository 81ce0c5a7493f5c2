use Rattle.std.proofs.Common.{◌*◌, ◌/◌, ◌%◌, arith}
use Rattle.std.proofs.lemmas.Nat.{mod_below}
use Rattle.timetable.specs.TimetableData.{timetable_of}
use Rattle.timetable.specs.Faults.{IsFast}
use Rattle.timetable.proofs.Pairs.{none_under_more, none_under_less, row_below}
use Rattle.timetable.proofs.TrackFaults.{speed_first, speed_none}
use Rattle.timetable.proofs.track.first_speed.Goals as goal

pub returns-then-abs_diff-gt1 : goal.returns-then-abs_diff-gt1
returns-then-abs_diff-gt1 c =
    let l = c.args.line.now in
    let p = timetable_of c.args.t.now in
    let e = c.period-period.ensures.value in
    let i = c.loop-number.number in
    let lt = rw (c.hoists.ensures.value, e) at c.loop-number-test.true in
    let old = rw e at c.position-old.ensures.value in
    let new = rw e at c.position-new.ensures.value in
    let fast : IsFast l p (i / p.period) (i % p.period) = (
      row_below p.period i l.hoists lt,
      mod_below i p.period c.period-period.ensures.valid.period.0,
      omega (arith, old, new, c.if-abs_diff-gt1.true, c.abs_diff.ensures),
    ) in
    rw e (speed_first l p i c.position-old.result c.position-new.result c.loop-number.invariant fast old new)

pub loop-number-preserved : goal.loop-number-preserved
loop-number-preserved c =
    let p = timetable_of c.args.t.now in
    let e = c.period-period.ensures.value in
    let old = rw e at c.position-old.ensures.value in
    let new = rw e at c.position-new.ensures.value in
    none_under_more p.period c.loop-number.number (IsFast c.args.line.now p) c.loop-number.invariant
    (λ fast. omega (arith, fast.2, old, new, c.if-abs_diff-gt1.false, c.abs_diff.ensures))

pub returns : goal.returns
returns c =
    let l = c.args.line.now in
    let p = timetable_of c.args.t.now in
    let le = rw (c.hoists.ensures.value, c.period-period.ensures.value) at c.loop-number-test.false in
    speed_none l p (none_under_less p.period c.loop-number.number (l.hoists * p.period) (IsFast l p) c.loop-number.invariant le)
