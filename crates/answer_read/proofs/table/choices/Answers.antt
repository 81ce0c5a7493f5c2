use Rattle.std.proofs.lemmas.Result.{err_from_is_err_and}
use Rattle.answer_read.specs.Tables.{choice_at, choices_at}
use Rattle.field_reading.proofs.Loops.{item_more, item_breaks, items_done}
use Rattle.answer_read.proofs.table.choices.Goals as goal

pub returns-in_err-tank : goal.returns-in_err-tank
returns-in_err-tank c =
    let p = err_from_is_err_and c.from_residual-in_err-tank.result c.from_residual-in_err-tank.ensures.1 in
    rw (p.1, p.2) (item_breaks (choice_at c.args.line.now) c.in_err-tank.field-0.0 c.loop-number.tanks.items c.visit_count-count.result c.loop-number.number
    c.loop-number.rest.now (choices_at c.args.line.now c.args.bytes.now) c.loop-number-test.true c.in_err-tank.ensures c.loop-number.invariant)

pub loop-number-preserved : goal.loop-number-preserved
loop-number-preserved c =
    rw c.in_ok-push.ensures.items (item_more
    (choice_at c.args.line.now) c.loop-number.tanks.items c.visit_count-count.result c.loop-number.number c.loop-number.rest.now c.in_ok-tank.tank
    c.in_ok-tank.after.now (choices_at c.args.line.now c.args.bytes.now) c.loop-number-test.true c.in_ok-tank.ensures c.loop-number.invariant)

pub returns : goal.returns
returns c =
    items_done (choice_at c.args.line.now) c.loop-number.tanks.items c.visit_count-count.result c.loop-number.number c.loop-number.rest.now
    (choices_at c.args.line.now c.args.bytes.now) c.loop-number-test.false c.loop-number.invariant
