use Rattle.std.proofs.lemmas.Result.{err_from_is_err_and}
use Rattle.answer_read.specs.Lines.{token_at}
use Rattle.field_reading.specs.Reading.{items_at}
use Rattle.field_reading.proofs.Loops.{item_more, item_breaks, items_done}
use Rattle.answer_read.proofs.lines.tokens.Goals as goal

pub returns-in_err-item : goal.returns-in_err-item
returns-in_err-item c =
    let p = err_from_is_err_and c.from_residual-in_err-item.result c.from_residual-in_err-item.ensures.1 in
    rw (p.1, p.2) (item_breaks (λ i. token_at) c.in_err-item.field-0.0 c.loop-i.items.items c.args.count c.loop-i.i c.loop-i.rest.now
    (items_at (λ i. token_at) 0 c.args.count c.args.bytes.now) c.loop-i-test.true c.in_err-item.ensures c.loop-i.invariant)

pub loop-i-preserved : goal.loop-i-preserved
loop-i-preserved c =
    rw c.in_ok-push.ensures.items (item_more
    (λ i. token_at) c.loop-i.items.items c.args.count c.loop-i.i c.loop-i.rest.now c.in_ok-item.item c.in_ok-item.after.now
    (items_at (λ i. token_at) 0 c.args.count c.args.bytes.now) c.loop-i-test.true c.in_ok-item.ensures c.loop-i.invariant)

pub returns : goal.returns
returns c =
    items_done (λ i. token_at) c.loop-i.items.items c.args.count c.loop-i.i c.loop-i.rest.now
    (items_at (λ i. token_at) 0 c.args.count c.args.bytes.now) c.loop-i-test.false c.loop-i.invariant
