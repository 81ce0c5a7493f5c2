use Rattle.std.proofs.Common.{◌<◌, arith}
use Rattle.track_log.specs.Reading.{at_most, begin_at, begins_at}
use Rattle.track_log.proofs.Begins.{broken_is, begin_more, begin_breaks, begin_none, begins_end, begins_stop}
use Rattle.track_log.proofs.ticks.begins.Goals as goal
use Rattle.track_log.proofs.ticks.begins.Goals.{in-Ok+in-Ok-tank+in_ok-push-in-Ok-tank, in-Err-Broken+in_ok-push-in-Err-Broken}

pub returns-in-Err : goal.returns-in-Err
returns-in-Err c =
    let l = c.args.line.now in
    rw c.further.ensures (begin_breaks l c.in-Err.stop c.loop-h.tanks.items l.hoists c.loop-h.h c.loop-h.left c.loop-h.rest.now c.in-Ok.after.now
    (at_most c.args.left (begins_at l 0 l.hoists c.args.bytes.now))
    (omega (arith, c.hoists-hoists.ensures.value, c.loop-h-test.true)) c.in-Ok.ensures c.in-Err.ensures
    c.loop-h.invariant)

pub loop-h-preserved : goal.loop-h-preserved
loop-h-preserved c =
    let l = c.args.line.now in
    let n = l.hoists in
    let lt : c.loop-h.h < n = omega (arith, c.hoists-hoists.ensures.value, c.loop-h-test.true) in
    let total = at_most c.args.left (begins_at l 0 n c.args.bytes.now) in
    elim c.match-begin.branch [
      | in-Ok+in-Ok-tank+in_ok-push-in-Ok-tank w ↦
          rw (w.tanks-is, w.rest-is, w.left-is, w.in_ok-push-in-Ok-tank.ensures.items)
          (begin_more l c.loop-h.tanks.items n c.loop-h.h c.loop-h.left c.loop-h.rest.now w.in-Ok.after.now w.in-Ok-tank.to w.in-Ok-tank.after.now total
          lt w.in-Ok.ensures w.in-Ok-tank.ensures c.loop-h.invariant)
      | in-Err-Broken+in_ok-push-in-Err-Broken w ↦
          rw (w.tanks-is, w.rest-is, w.left-is, w.in_ok-push-in-Err-Broken.ensures.items, w.min-left.ensures)
          (begin_none l c.loop-h.tanks.items n c.loop-h.h c.loop-h.left w.in-Err-Broken.other c.loop-h.rest.now total lt
          (broken_is w.in-Err-Broken.field-0 w.in-Err-Broken.other
          (begin_at c.loop-h.h c.loop-h.rest.now) w.in-Err-Broken.field-0-is w.in-Err-Broken.ensures)
          c.loop-h.invariant)
    ]

pub returns-in-Ok-word : goal.returns-in-Ok-word
returns-in-Ok-word c =
    let l = c.args.line.now in
    begins_end l c.loop-h.tanks.items l.hoists c.loop-h.h c.loop-h.left c.loop-h.rest.now c.in-Ok-word.after.now
    (at_most c.args.left (begins_at l 0 l.hoists c.args.bytes.now))
    (omega (arith, c.hoists-hoists.ensures.value, c.loop-h-test.false)) c.in-Ok-word.ensures c.loop-h.invariant

pub returns-in-Err-word : goal.returns-in-Err-word
returns-in-Err-word c =
    let l = c.args.line.now in
    rw c.further-in-Err-word.ensures (begins_stop l c.in-Err-word.stop c.loop-h.tanks.items l.hoists c.loop-h.h c.loop-h.left c.loop-h.rest.now
    (at_most c.args.left (begins_at l 0 l.hoists c.args.bytes.now))
    (omega (arith, c.hoists-hoists.ensures.value, c.loop-h-test.false)) c.in-Err-word.ensures c.loop-h.invariant)
