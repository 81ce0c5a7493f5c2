use Rattle.std.proofs.Common.{◌*◌, ◌/◌, ◌%◌, arith}
use Rattle.std.proofs.lemmas.Nat.{mod_below}
use Rattle.timetable.specs.TimetableData.{timetable_of}
use Rattle.timetable.specs.Faults.{IsAbove}
use Rattle.timetable.proofs.Pairs.{none_under_more, none_under_less, row_below}
use Rattle.timetable.proofs.TrackFaults.{track_first, track_none}
use Rattle.timetable.proofs.track.first_track.Goals as goal

pub returns-then-at-track-clause-first : goal.returns-then-at-track-clause-first
returns-then-at-track-clause-first c =
    let l = c.args.line.now in
    let p = timetable_of c.args.t.now in
    let e = c.period-period.ensures.value in
    let i = c.loop-number.number in
    let lt = rw (c.hoists.ensures.value, e) at c.loop-number-test.true in
    let is = rw e at c.position-at.ensures.value in
    let above : IsAbove l p (i / p.period) (i % p.period) = (
      row_below p.period i l.hoists lt,
      mod_below i p.period c.period-period.ensures.valid.period.0,
      omega (arith, is, c.if-at-track.true, c.track.ensures.value),
    ) in
    rw e (track_first l p i c.position-at.result c.loop-number.invariant above is)

pub loop-number-preserved : goal.loop-number-preserved
loop-number-preserved c =
    let p = timetable_of c.args.t.now in
    let is = rw c.period-period.ensures.value at c.position-at.ensures.value in
    none_under_more p.period c.loop-number.number (IsAbove c.args.line.now p) c.loop-number.invariant
    (λ above. omega (arith, above.2, is, c.if-at-track.false, c.track.ensures.value))

pub returns-clause-first : goal.returns-clause-first
returns-clause-first c =
    let l = c.args.line.now in
    let p = timetable_of c.args.t.now in
    let le = rw (c.hoists.ensures.value, c.period-period.ensures.value) at c.loop-number-test.false in
    track_none l p (none_under_less p.period c.loop-number.number (l.hoists * p.period) (IsAbove l p) c.loop-number.invariant le)
