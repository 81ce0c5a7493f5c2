use Rattle.std.proofs.Common.{◌-◌, ◌*◌, ◌/◌, ◌%◌, ◌<◌, arith}
use Rattle.std.proofs.lemmas.Nat.{mod_below}
use Rattle.timetable.specs.TimetableData.{timetable_of}
use Rattle.timetable.specs.Faults.{AreNear}
use Rattle.timetable.proofs.Pairs.{none_under_more, none_under_less, row_below}
use Rattle.timetable.proofs.TrackFaults.{gap_first, gap_none, next_row_there}
use Rattle.timetable.proofs.track.first_gap.Goals as goal

pub position-high-requires : goal.position-high-requires
position-high-requires c =
    let e = c.period-period.ensures.value in
    let lt = rw (c.hoists.ensures.value, e) at c.loop-number-test.true in
    rw e (next_row_there c.args.line.now c.args.t.now c.loop-number.number c.requires lt)

pub returns-then-high-low : goal.returns-then-high-low
returns-then-high-low c =
    let l = c.args.line.now in
    let p = timetable_of c.args.t.now in
    let e = c.period-period.ensures.value in
    let i = c.loop-number.number in
    let lt = rw (c.hoists.ensures.value, e) at c.loop-number-test.true in
    let low = rw e at c.position-low.ensures.value in
    let high = rw e at c.position-high.ensures.value in
    let row : i / p.period < l.hoists - 1 = row_below p.period i (l.hoists - 1) lt in
    let near : AreNear l p (i / p.period) (i % p.period) = (
      omega (arith, row),
      mod_below i p.period c.period-period.ensures.valid.period.0,
      omega (arith, low, high, c.if-high-low.true, c.gap.ensures.value),
    ) in
    rw e (gap_first l p i c.position-low.result c.position-high.result c.loop-number.invariant near low high)

pub loop-number-preserved : goal.loop-number-preserved
loop-number-preserved c =
    let p = timetable_of c.args.t.now in
    let e = c.period-period.ensures.value in
    let low = rw e at c.position-low.ensures.value in
    let high = rw e at c.position-high.ensures.value in
    none_under_more p.period c.loop-number.number (AreNear c.args.line.now p) c.loop-number.invariant
    (λ near. omega (arith, near.2, low, high, c.if-high-low.false, c.gap.ensures.value))

pub returns : goal.returns
returns c =
    let l = c.args.line.now in
    let p = timetable_of c.args.t.now in
    let le = rw (c.hoists.ensures.value, c.period-period.ensures.value) at c.loop-number-test.false in
    gap_none l p (none_under_less p.period c.loop-number.number ((l.hoists - 1) * p.period) (AreNear l p) c.loop-number.invariant le)
