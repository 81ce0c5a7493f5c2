use Rattle.std.proofs.lemmas.Result.{err_from_is_err_and}
use Rattle.answer_read.specs.Tables.{position_at}
use Rattle.field_reading.specs.Reading.{items_at, with_front}
use Rattle.field_reading.proofs.Loops.{item_more, item_breaks, items_done}
use Rattle.answer_read.proofs.table.positions.Goals as goal

pub returns-in_err-at : goal.returns-in_err-at
returns-in_err-at c =
    let p = err_from_is_err_and c.from_residual.result c.from_residual.ensures.1 in
    rw (p.1, p.2) (item_breaks (λ i. position_at) c.in_err-at.field-0.0 c.loop-t.path.items c.args.count c.loop-t.t c.loop-t.rest.now
    (with_front c.args.path.now.items (items_at (λ i. position_at) 0 c.args.count c.args.bytes.now)) c.loop-t-test.true c.in_err-at.ensures c.loop-t.invariant)

pub loop-t-preserved : goal.loop-t-preserved
loop-t-preserved c =
    rw c.in_ok-push.ensures.items (item_more
    (λ i. position_at) c.loop-t.path.items c.args.count c.loop-t.t c.loop-t.rest.now c.in_ok-at.at c.in_ok-at.after.now
    (with_front c.args.path.now.items (items_at (λ i. position_at) 0 c.args.count c.args.bytes.now)) c.loop-t-test.true c.in_ok-at.ensures c.loop-t.invariant)

pub returns : goal.returns
returns c =
    items_done (λ i. position_at) c.loop-t.path.items c.args.count c.loop-t.t c.loop-t.rest.now
    (with_front c.args.path.now.items (items_at (λ i. position_at) 0 c.args.count c.args.bytes.now)) c.loop-t-test.false c.loop-t.invariant
