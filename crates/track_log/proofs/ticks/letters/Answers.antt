use Rattle.std.proofs.lemmas.Result.{err_from_is_err_and}
use Rattle.track_log.specs.Reading.{letter_at}
use Rattle.field_reading.specs.Reading.{items_at}
use Rattle.field_reading.proofs.Loops.{item_more, item_breaks, items_done}
use Rattle.track_log.proofs.ticks.letters.Goals as goal

pub returns-in_err-one : goal.returns-in_err-one
returns-in_err-one c =
    let p = err_from_is_err_and c.from_residual.result c.from_residual.ensures.1 in
    rw (p.1, p.2) (item_breaks (λ i. letter_at c.args.tick) c.in_err-one.field-0.0 c.loop-h.go.items c.args.hoists c.loop-h.h c.loop-h.rest.now
    (items_at (λ i. letter_at c.args.tick) 0 c.args.hoists c.args.bytes.now) c.loop-h-test.true c.in_err-one.ensures c.loop-h.invariant)

pub loop-h-preserved : goal.loop-h-preserved
loop-h-preserved c =
    rw c.in_ok-push.ensures.items (item_more
    (λ i. letter_at c.args.tick) c.loop-h.go.items c.args.hoists c.loop-h.h c.loop-h.rest.now c.in_ok-one.one c.in_ok-one.after.now
    (items_at (λ i. letter_at c.args.tick) 0 c.args.hoists c.args.bytes.now) c.loop-h-test.true c.in_ok-one.ensures c.loop-h.invariant)

pub returns : goal.returns
returns c =
    items_done (λ i. letter_at c.args.tick) c.loop-h.go.items c.args.hoists c.loop-h.h c.loop-h.rest.now
    (items_at (λ i. letter_at c.args.tick) 0 c.args.hoists c.args.bytes.now) c.loop-h-test.false c.loop-h.invariant
